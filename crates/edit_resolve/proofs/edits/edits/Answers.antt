use Rattle.std.proofs.Common.{◌≡◌, ◌<◌, ◌∙◌, ℕ, suc, ap, arith, length, map, subst, sym}
use Rattle.std.specs.List.{All, AllByRecursion, find}
use Rattle.std.proofs.lemmas.List.{get_or-map, length-map}
use Rattle.bib_text.proofs.ListFacts.{all_weaker}
use Rattle.bib_syntax.specs.Reading.{EntryReading}
use Rattle.bib_syntax.specs.Views.{entry_reading_of}
use Rattle.edit_entries.specs.Changes.{edits_of_entries, edits_of_entry}
use Rattle.edit_entries.specs.Cuts.{ArePiecesCut}
use Rattle.edit_entries.specs.EditList.{edit_of}
use Rattle.edit_entries.proofs.AllFacts.{OfFields}
use Rattle.edit_strings.proofs.ListFacts.{all_step, flat_step}
use Rattle.edit_resolve.specs.Inheritance.{read_name}
use Rattle.edit_resolve.specs.Parents.{entry_at, no_reading, parents}
use Rattle.edit_resolve.specs.Resolved.{all_fields, fields_by, given_fields_by, is_read_as, replacement, resolution}
use Rattle.edit_resolve.specs.Working.{IsNamedCut, fields_at, readings}
use Rattle.edit_resolve.specs.declared.parents.Parent.{Parent}
use Rattle.edit_resolve.proofs.AlongFacts.{giving_known, row_found, rows_count}
use Rattle.edit_resolve.proofs.GivenFacts.{all_found}
use Rattle.edit_resolve.proofs.InheritedFacts.{all_giving, all_inherited}
use Rattle.edit_resolve.proofs.ParentFacts.{parents_within}
use Rattle.edit_resolve.proofs.edits.edits.Goals as goal

pub parents_at-requires : goal.parents_at-requires
parents_at-requires c =
    let es = readings c.args.file.now in
    omega (
      arith,
      c.entries-test.true,
      length-map c.args.file.now.entries.now entry_reading_of,
      rows_count es c.args.parents.now c.requires.parents,
    )

pub given-requires : goal.given-requires
given-requires c =
    let es = readings c.args.file.now in
    let i : ℕ = c.entries.index in
    let within : i < length es =
    omega (arith, c.entries-test.true, length-map c.args.file.now.entries.now entry_reading_of) in
    let row : c.parents_at.result.now ≡ parents es (entry_at es i) =
    c.parents_at.ensures ∙ row_found es c.args.parents.now i c.requires.parents within in
    let count : length c.args.fields.now ≡ length es =
    c.requires.length ∙ sym (length-map c.args.file.now.entries.now entry_reading_of) in
    subst (λ n. All (λ (p : Parent). p.index < n) c.parents_at.result.now) (sym count)
    (subst (λ l. All (λ (p : Parent). p.index < length es) l) (sym row) (parents_within es (entry_at es i)))

pub fields_of-all-requires : goal.fields_of-all-requires
fields_of-all-requires c = omega (arith, c.requires.length, c.entries-test.true)

pub push_entry_edits-requires-clause-given : goal.push_entry_edits-requires-clause-given
push_entry_edits-requires-clause-given c = λ f.
    let es = readings c.args.file.now in
    let i : ℕ = c.entries.index in
    let within : i < length es =
    omega (arith, c.entries-test.true, length-map c.args.file.now.entries.now entry_reading_of) in
    let at : entry_at es i ≡ entry_reading_of c.entry-item.result =
    get_or-map entry_reading_of c.args.file.now.entries.now i c.entry-item.result no_reading c.entries-test.true
    ∙ ap entry_reading_of (sym c.entry-item.is) in
    let row : c.parents_at.result.now ≡ parents es (entry_at es i) =
    c.parents_at.ensures ∙ row_found es c.args.parents.now i c.requires.parents within in
    c.in_ok-given.ensures (read_name f.name.text)
    ∙ ap (find (is_read_as (read_name f.name.text)))
    (giving_known es (fields_at c.args.fields.now) c.parents_at.result.now (entry_at es i) row c.requires.along)
    ∙ ap (λ e. replacement es e f) at

pub push_entry_edits-requires-clause-cut : goal.push_entry_edits-requires-clause-cut
push_entry_edits-requires-clause-cut c = λ name n is.
    let text = c.args.text.now in
    let es = readings c.args.file.now in
    let i : ℕ = c.entries.index in
    let within : i < length es =
    omega (arith, c.entries-test.true, length-map c.args.file.now.entries.now entry_reading_of) in
    let row : c.parents_at.result.now ≡ parents es (entry_at es i) =
    c.parents_at.ensures ∙ row_found es c.args.parents.now i c.requires.parents within in
    let own : OfFields (ArePiecesCut text) es =
    all_weaker (λ e. AllByRecursion (λ f. IsNamedCut text f × ArePiecesCut text f) e.fields)
    (λ e. AllByRecursion (ArePiecesCut text) e.fields)
    (λ e all. all_weaker (λ f. IsNamedCut text f × ArePiecesCut text f) (ArePiecesCut text) (λ f both. both.1) e.fields all) es
    c.requires.cut in
    all_found (λ n. ArePiecesCut text n.field) (is_read_as name) (given_fields_by (all_fields es) (parents es (entry_at es i))) n
    (all_giving (λ n. ArePiecesCut text n.field) (λ n type child name cut is. cut) es own (entry_at es i))
    (sym
    (c.in_ok-given.ensures name
    ∙ ap (find (is_read_as name))
    (giving_known es (fields_at c.args.fields.now) c.parents_at.result.now (entry_at es i) row c.requires.along))
    ∙ is)

pub push_entry_edits-requires-clause-own : goal.push_entry_edits-requires-clause-own
push_entry_edits-requires-clause-own c =
    (all_step entry_reading_of c.args.file.now.entries.now c.entries.index c.entry-item.result c.entries-test.true c.entry-item.is
    (λ e. AllByRecursion (λ f. IsNamedCut c.args.text.now f × ArePiecesCut c.args.text.now f) e.fields) c.entries.invariant.cut).0

pub push_entry_edits-requires-clause-all : goal.push_entry_edits-requires-clause-all
push_entry_edits-requires-clause-all c =
    let es = readings c.args.file.now in
    let i : ℕ = c.entries.index in
    let e : EntryReading = entry_reading_of c.entry-item.result in
    let within : i < length es =
    omega (arith, c.entries-test.true, length-map c.args.file.now.entries.now entry_reading_of) in
    let at : entry_at es i ≡ e =
    get_or-map entry_reading_of c.args.file.now.entries.now i c.entry-item.result no_reading c.entries-test.true
    ∙ ap entry_reading_of (sym c.entry-item.is) in
    c.fields_of-all.ensures ∙ c.requires.along i (suc (length es)) within (omega arith)
    ∙ ap (fields_by es (all_fields es)) at

pub push_entry_edits-requires-clause-new : goal.push_entry_edits-requires-clause-new
push_entry_edits-requires-clause-new c =
    let text = c.args.text.now in
    let es = readings c.args.file.now in
    let own : OfFields (ArePiecesCut text) es =
    all_weaker (λ e. AllByRecursion (λ f. IsNamedCut text f × ArePiecesCut text f) e.fields)
    (λ e. AllByRecursion (ArePiecesCut text) e.fields)
    (λ e all. all_weaker (λ f. IsNamedCut text f × ArePiecesCut text f) (ArePiecesCut text) (λ f both. both.1) e.fields all) es
    c.requires.cut in
    all_inherited (λ n. ArePiecesCut text n.field) (λ n type child name cut is. cut) es own (entry_reading_of c.entry-item.result)

pub entries-preserved : goal.entries-preserved
entries-preserved c =
    let text = c.args.text.now in
    let es = readings c.args.file.now in
    record {
      added =
          flat_step entry_reading_of c.args.file.now.entries.now c.entries.index c.entry-item.result c.entries-test.true
          c.entry-item.is (λ e. edits_of_entry text e (resolution text es e)) (map edit_of c.entries.edits.items)
          (map edit_of c.push_entry_edits.new.edits.items) (edits_of_entries (resolution text es) text es)
          c.in_ok-push_entry_edits.ensures c.entries.invariant.added;
      cut =
          (all_step entry_reading_of c.args.file.now.entries.now c.entries.index c.entry-item.result c.entries-test.true
          c.entry-item.is (λ e. AllByRecursion (λ f. IsNamedCut text f × ArePiecesCut text f) e.fields)
          c.entries.invariant.cut).1;
    }
