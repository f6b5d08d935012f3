use Rattle.std.proofs.Common.{◌++◌, ap, ◌∙◌}
use Rattle.std.specs.String.{string_bytes}
use Rattle.bib_source.specs.Positions.{position_at}
use Rattle.edit_resolve.specs.Views.{uninherited_row}
use Rattle.bibkit_edits.specs.UninheritedNotes.{uninherited_note}
use Rattle.bibkit_edits.proofs.UninheritedNoteFacts.{notes_more}
use Rattle.bibkit_edits.proofs.uninherited_notes.notes_on.Goals as goal

pub found-preserved : goal.found-preserved
found-preserved c =
    let name = c.args.name.now in
    let u = uninherited_row c.fields-item.result in
    let old = string_bytes c.found.notes in
    record {
      notes =
          notes_more name c.args.text.now c.args.found.now c.found.fields-index c.fields-item.result c.found-test.true
          c.fields-item.is _ _ c.found.invariant.notes
          (c.in_ok-push_str.ensures.bytes ∙ ap (λ l. old ++ l) (c.deref.ensures ∙ c.in_ok-note.ensures)
          ∙ ap (λ place. old ++ uninherited_note name place u)
          (c.position-place.ensures.found ∙ ap (λ t. position_at t u.reference.name.start) c.found.invariant.positions));
      positions = c.position-place.ensures.same ∙ c.found.invariant.positions;
    }
