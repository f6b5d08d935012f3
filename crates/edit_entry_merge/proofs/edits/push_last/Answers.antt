use Rattle.std.proofs.Common.{◌≡◌, ◌++◌, ◌∷◌, ◌∙◌, List, ap, arith, length, map, sym, true, false}
use Rattle.std.specs.Prelude.{◌==◌}
use Rattle.std.proofs.lemmas.List.{length-map}
use Rattle.bib_syntax.proofs.RecoveryFacts.{on_ok}
use Rattle.bib_syntax.specs.Reading.{FieldReading}
use Rattle.bib_syntax.specs.Views.{field_of}
use Rattle.edit_entries.specs.Changes.{edits_of_fields}
use Rattle.edit_entries.specs.EditList.{edit_of}
use Rattle.edit_entry_merge.specs.Working.{added_fields, pick_of}
use Rattle.edit_entry_merge.proofs.ClosingFacts.{closing_is, is_none}
use Rattle.edit_entry_merge.proofs.edits.push_last.Goals as goal
use Rattle.edit_entry_merge.proofs.edits.push_last.Goals.{else-fields-eq1-via-then-fields-eq1+else-is_empty, else-fields-eq1-via-else-fields-eq1}

pub returns : goal.returns
returns c =
    let text = c.args.texts.main.now in
    let added : List FieldReading = added_fields c.args.added.now in
    on_ok c.push_closing.result c.push_closing.ensures
    (λ post f following whole.
    let some : (length following == 0) ≡ true → (length added == 0) ≡ true → ⊥ =
    λ none last.
    elim c.else-fields-eq1.branch [
      | else-fields-eq1-via-then-fields-eq1+else-is_empty w ↦
          let clash : false ≡ true =
          sym w.if-is_empty.false ∙ w.is_empty.ensures
          ∙ ap (λ n. n == 0) (sym (length-map c.args.added.now (λ a. field_of a.field.now))) ∙ last in
          cc
      | else-fields-eq1-via-else-fields-eq1 w ↦
          omega (arith, w.if-fields-eq1.false, length-map c.args.fields.now field_of, ap length whole, is_none following none)
    ] in
    post f following whole
    ∙ ap (λ l. map edit_of c.args.edits.now.items ++ edits_of_fields text (f ∷ following) l)
    (sym
    (closing_is text c.args.texts.other.now (map field_of c.args.texts.fields.now) f (pick_of c.args.pick) following added some)))
