use Rattle.std.proofs.Common.{◌≡◌, ◌++◌, ◌<◌, ◌∙◌, ℕ, List, length, ap, arith, get_or, map, sym, unwrap_or}
use Rattle.std.specs.List.{flat_map}
use Rattle.std.proofs.lemmas.List.{get_or-map, length-map}
use Rattle.bib_syntax.specs.Reading.{EntryReading, FieldReading}
use Rattle.bib_syntax.specs.Views.{entry_reading_of, field_of}
use Rattle.bib_tables.specs.declared.mechanics.EntryType.{EntryType}
use Rattle.edit_resolve.specs.Inheritance.{read_name}
use Rattle.edit_resolve.specs.Parents.{entry_at, no_reading, type_of}
use Rattle.edit_resolve.specs.Resolved.{Named, as_itself, given_fields_by, in_place, new_fields, offers}
use Rattle.edit_resolve.specs.Working.{fields_at, instead_at, offered_at, readings}
use Rattle.edit_resolve.proofs.FileFacts.{type_found}
use Rattle.edit_resolve.proofs.GatheringFacts.{offered_is}
use Rattle.edit_resolve.proofs.ListFacts.{map_same}
use Rattle.edit_resolve.proofs.gathering.with_inherited.Goals as goal

pub returns : goal.returns
returns c =
    let es = readings c.args.file.now in
    let i : ℕ = c.args.index in
    let item = c.index-file-index.result in
    let e : EntryReading = entry_at es i in
    let e_is : e ≡ entry_reading_of (get_or c.args.file.now.entries.now i item) =
    get_or-map entry_reading_of c.args.file.now.entries.now i item no_reading c.requires.index in
    let within : i < length es = omega (arith, c.requires.index, length-map c.args.file.now.entries.now entry_reading_of) in
    let own : List FieldReading = map field_of c.deref.result.now in
    let own_is : own ≡ e.fields = ap (map field_of) c.deref.ensures.value ∙ ap (λ x. x.fields) (sym e_is) in
    let same : List FieldReading = map field_of c.deref-2.result.now in
    let same_is : same ≡ e.fields = ap (map field_of) c.deref-2.ensures.value ∙ ap (λ x. x.fields) (sym e_is) in
    let read = λ (fs : List FieldReading). map (λ f. read_name f.name.text) fs in
    let fields = fields_at c.args.found.now in
    let offered : List Named = offered_at c.deref-3.result.now c.index.result.now fields c.args.parents.now in
    let type_is : c.index.result.now ≡ type_of e =
    type_found es c.args.file.now.types.items i c.index.result.now c.requires.known.types within c.index.ensures in
    let all = λ (child : EntryType).
    flat_map (λ p. offers p.link (type_of (entry_at es p.index)) child (fields p.index)) c.args.parents.now in
    let offered_are : offered ≡ all (type_of e) =
    offered_is es c.deref-3.result.now c.index.result.now fields c.args.parents.now (c.deref-3.ensures.value ∙ c.requires.known.types)
    ∙ ap all type_is in
    let own_name : FieldReading → Named = λ f. unwrap_or (instead_at c.in_ok-given.given f) (as_itself f) in
    let gives : List Named = given_fields_by fields c.args.parents.now in
    let placed : map own_name same ≡ map (in_place gives) same =
    map_same own_name (in_place gives)
    (λ f. ap (λ o. unwrap_or o (as_itself f)) (c.in_ok-given.ensures (read_name f.name.text))) same in
    let after =
    c.in_ok-push_parents.ensures (read own) (map own_name same)
    (record { names = c.in_ok-own_names.ensures; fields = c.in_ok-own_fields.ensures }) in
    after.fields
    ∙ ap (λ l. l ++ new_fields (read own) offered) placed
    ∙ ap (λ l. map (in_place gives) l ++ new_fields (read own) offered) same_is
    ∙ ap (λ l. map (in_place gives) e.fields ++ new_fields (read l) offered) own_is
    ∙ ap (λ o. map (in_place gives) e.fields ++ new_fields (read e.fields) o) offered_are
