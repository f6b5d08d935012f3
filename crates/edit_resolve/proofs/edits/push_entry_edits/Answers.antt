use Rattle.std.proofs.Common.{◌≡◌, ◌∙◌, ap, List, length, map, subst, sym}
use Rattle.std.specs.List.{AllByRecursion}
use Rattle.std.specs.Prelude.{OnOk, ◌++◌}
use Rattle.std.proofs.lemmas.List.{length-map}
use Rattle.bib_text.proofs.ListFacts.{all_weaker}
use Rattle.bib_syntax.specs.Reading.{EntryReading}
use Rattle.bib_syntax.specs.Views.{entry_reading_of, field_of}
use Rattle.edit_entries.specs.Changes.{edits_of_fields}
use Rattle.edit_entries.specs.Cuts.{ArePiecesCut}
use Rattle.edit_entries.specs.EditList.{edit_of}
use Rattle.edit_entries.specs.Edits.{Edit}
use Rattle.edit_resolve.specs.Parents.{is_resolved, parents}
use Rattle.edit_resolve.specs.Resolved.{Named, all_fields, field_resolutions, given_fields_by, in_place, inherited, replacement}
use Rattle.edit_resolve.specs.Working.{IsNamedCut, instead_at, named_of, readings}
use Rattle.edit_resolve.proofs.ChangeFacts.{changes_same, new_part}
use Rattle.edit_resolve.proofs.edits.push_entry_edits.Goals as goal

pub push_field_edits-requires-clause-fields : goal.push_field_edits-requires-clause-fields
push_field_edits-requires-clause-fields c =
    subst (λ l. AllByRecursion (IsNamedCut c.args.text.now) (map field_of l)) (sym c.deref.ensures.value)
    (all_weaker (λ f. IsNamedCut c.args.text.now f × ArePiecesCut c.args.text.now f) (IsNamedCut c.args.text.now) (λ f both. both.0)
    (entry_reading_of c.args.entry.now).fields c.requires.own)

pub push_field_edits-requires-clause-new : goal.push_field_edits-requires-clause-new
push_field_edits-requires-clause-new c =
    let e : EntryReading = entry_reading_of c.args.entry.now in
    let part : map named_of c.without_first-new.result.now ≡ inherited (readings c.args.file.now) e =
    ap (map named_of) c.without_first-new.ensures
    ∙ new_part (in_place (given_fields_by (all_fields (readings c.args.file.now)) (parents (readings c.args.file.now) e))) c.args.all.now
    e.fields (inherited (readings c.args.file.now) e) c.len.result c.requires.all
    (c.len.ensures ∙ sym c.deref.ensures.len ∙ ap length c.deref.ensures.value
    ∙ sym (length-map c.args.entry.now.v.fields.items field_of)) in
    subst (AllByRecursion (λ n. ArePiecesCut c.args.text.now n.field)) (sym part) c.requires.new

pub returns : goal.returns
returns c =
    let e : EntryReading = entry_reading_of c.args.entry.now in
    let part : map named_of c.without_first-new.result.now ≡ inherited (readings c.args.file.now) e =
    ap (map named_of) c.without_first-new.ensures
    ∙ new_part (in_place (given_fields_by (all_fields (readings c.args.file.now)) (parents (readings c.args.file.now) e))) c.args.all.now
    e.fields (inherited (readings c.args.file.now) e) c.len.result c.requires.all
    (c.len.ensures ∙ sym c.deref.ensures.len ∙ ap length c.deref.ensures.value
    ∙ sym (length-map c.args.entry.now.v.fields.items field_of)) in
    let text = c.args.text.now in
    let resolved = is_resolved (readings c.args.file.now) in
    let instead = instead_at c.args.given.now in
    let now : List Edit = map edit_of c.push_field_edits.new.edits.items in
    let old : List Edit = map edit_of c.args.edits.now.items in
    let inherits : List Named = inherited (readings c.args.file.now) e in
    subst (λ l. OnOk c.push_field_edits.result (now ≡ old ++ edits_of_fields text e.fields l))
    (changes_same text resolved instead (replacement (readings c.args.file.now) e) inherits e.fields c.requires.given)
    (subst
    (λ l. OnOk c.push_field_edits.result (now ≡ old ++ edits_of_fields text e.fields (field_resolutions text resolved instead l e.fields)))
    part
    (subst
    (λ l.
    OnOk c.push_field_edits.result
    (now
    ≡ old
    ++ edits_of_fields text (map field_of l)
    (field_resolutions text resolved instead (map named_of c.without_first-new.result.now) (map field_of l)))) c.deref.ensures.value
    c.push_field_edits.ensures))
