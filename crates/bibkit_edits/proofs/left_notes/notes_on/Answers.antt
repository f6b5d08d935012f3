use Rattle.std.proofs.Common.{◌++◌, ap, ◌∙◌}
use Rattle.std.specs.String.{string_bytes}
use Rattle.bib_source.specs.Positions.{position_at}
use Rattle.edit_strings.specs.Views.{left_of}
use Rattle.bibkit_edits.specs.LeftNotes.{left_note}
use Rattle.bibkit_edits.proofs.LeftNoteFacts.{notes_more}
use Rattle.bibkit_edits.proofs.left_notes.notes_on.Goals as goal

pub left-preserved : goal.left-preserved
left-preserved c =
    let name = c.args.name.now in
    let left = left_of c.reference-item.result in
    let old = string_bytes c.left.notes in
    record {
      notes =
          notes_more name c.args.text.now c.args.left.now c.left.reference-index c.reference-item.result c.left-test.true
          c.reference-item.is _ _ c.left.invariant.notes
          (c.in_ok-push_str.ensures.bytes ∙ ap (λ l. old ++ l) (c.deref.ensures ∙ c.in_ok-note.ensures)
          ∙ ap (λ place. old ++ left_note name place left)
          (c.position-place.ensures.found ∙ ap (λ t. position_at t left.field.name.start) c.left.invariant.positions));
      positions = c.position-place.ensures.same ∙ c.left.invariant.positions;
    }
