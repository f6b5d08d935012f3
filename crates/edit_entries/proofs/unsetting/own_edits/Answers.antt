use Rattle.std.proofs.Common.{◌≡◌, ◌+◌, ◌++◌, ◌∷◌, [], List, drop, map, sym, ap, ◌∙◌, subst}
use Rattle.std.specs.Prelude.{option_map, slice_get}
use Rattle.std.proofs.lemmas.List.{map-append}
use Rattle.bib_syntax.specs.Views.{entry_reading_of, field_of}
use Rattle.bib_syntax.specs.Reading.{EntryReading}
use Rattle.edit_entries.specs.EditList.{edit_of}
use Rattle.edit_entries.specs.Placed.{IsPlaced}
use Rattle.edit_entries.specs.Unset.{own_edits}
use Rattle.edit_entries.specs.declared.editing.Edit as editing
use Rattle.edit_entries.proofs.AllFacts.{all_there}
use Rattle.edit_entries.proofs.OwnListFacts.{one_added, passed_over, with_edits}
use Rattle.edit_entries.proofs.PositionFacts.{slice_get-map}
use Rattle.edit_entries.proofs.unsetting.own_edits.Goals.{then-is_word+in_ok-edit+in-Some+in_ok-push, else-is_word}
use Rattle.edit_entries.proofs.unsetting.own_edits.Goals as goal

pub edit_before-requires-clause-placed : goal.edit_before-requires-clause-placed
edit_before-requires-clause-placed c =
    let e : EntryReading = entry_reading_of c.args.entry.now in
    let x = c.index-fields-index.result in
    let index = c.fields.index in
    all_there (IsPlaced c.args.text.now) e.fields index (field_of x) c.requires
    (sym (ap (λ l. slice_get (map field_of l) index) c.as_slice-fields.ensures.value)
    ∙ slice_get-map field_of c.as_slice-fields.result.now index x c.fields-test.true c.index-fields-index.is)

added : (old new : List editing.Edit) (edit : editing.Edit) → new ≡ old ++ edit ∷ []
    → map edit_of new ≡ map edit_of old ++ edit_of edit ∷ []
added old new edit is = ap (map edit_of) is ∙ map-append edit_of old (edit ∷ [])

pub fields-preserved : goal.fields-preserved
fields-preserved c =
    let e : EntryReading = entry_reading_of c.args.entry.now in
    let xs = c.as_slice-fields.result.now in
    let x = c.index-fields-index.result in
    let text = c.args.text.now in
    let name = c.args.name.now in
    let i = c.fields.index in
    let whole = own_edits text name e 0 (map field_of xs) in
    elim c.if-is_word.branch [
      | then-is_word+in_ok-edit+in-Some+in_ok-push w ↦
          let items = ap (λ v. v.items) w.edits-is ∙ w.in_ok-push.ensures.items in
          subst (λ l. whole ≡ with_edits l (own_edits text name e (i + 1) (map field_of (drop (i + 1) xs))))
          (sym (added c.fields.edits.items c.if-is_word.edits.items w.in-Some.edit items))
          (one_added field_of text name e xs (map edit_of c.fields.edits.items) i whole c.fields.invariant x c.fields-test.true
          c.index-fields-index.is w.has_field-more.result (edit_of w.in-Some.edit) (sym c.is_word.ensures ∙ w.if-is_word.true)
          w.has_field-more.ensures (sym w.in_ok-edit.ensures ∙ ap (option_map edit_of) w.in-Some.is))
      | else-is_word w ↦
          subst (λ v. whole ≡ with_edits (map edit_of v.items) (own_edits text name e (i + 1) (map field_of (drop (i + 1) xs))))
          (sym w.edits-is)
          (passed_over field_of text name e xs (map edit_of c.fields.edits.items) i whole c.fields.invariant x c.fields-test.true
          c.index-fields-index.is (sym c.is_word.ensures ∙ w.if-is_word.false))
    ]
