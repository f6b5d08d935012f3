use Rattle.std.proofs.Common.{◌≡◌, ◌∙◌, ap, subst}
use Rattle.std.proofs.lemmas.Result.{IfOk-weaker}
use Rattle.std.specs.String.{string_bytes}
use Rattle.bib_collections.specs.Graph.{IsFirstOnCycle}
use Rattle.edit_entries.specs.Documents.{Document}
use Rattle.edit_resolve.specs.Parents.{parent_graph}
use Rattle.edit_resolve.specs.Resolved.{IsResolveError}
use Rattle.edit_resolve.specs.Views.{uninherited_list}
use Rattle.bibkit_edits.specs.UninheritedNotes.{AreNotesOn, uninherited_lines}
use Rattle.bibkit_edits.proofs.uninherited_notes.document_notes.Goals as goal

pub returns-in-Ok : goal.returns-in-Ok
returns-in-Ok c =
    let d : Document = c.args.document.now in
    let name = c.args.name.now in
    IfOk-weaker c.notes_on.result
    (λ notes. string_bytes notes ≡ uninherited_lines name c.text.result.now (uninherited_list c.deref.result.now))
    (λ notes. AreNotesOn name d (string_bytes notes))
    (λ notes are. record {
      found = λ no_cycle.
          are ∙ ap (λ t. uninherited_lines name t (uninherited_list c.deref.result.now)) c.text.ensures
          ∙ ap (λ l. uninherited_lines name d.text (uninherited_list l)) c.deref.ensures.value
          ∙ ap (uninherited_lines name d.text) c.in-Ok.ensures.found;
      cycle = λ cycle. absurd (cycle c.in-Ok.ensures.no_cycle);
    })
    c.notes_on.ensures

pub returns-in_ok-unless_out_of_memory-in-Err : goal.returns-in_ok-unless_out_of_memory-in-Err
returns-in_ok-unless_out_of_memory-in-Err c =
    let d : Document = c.args.document.now in
    let first : IsFirstOnCycle (parent_graph d.says.entries) c.in_ok-unless_out_of_memory-in-Err.field-0 =
    subst (IsResolveError d.says.entries) c.in_ok-unless_out_of_memory-in-Err.ensures.cycle c.in-Err.ensures.refused in
    record {
      found = λ no_cycle. absurd (no_cycle c.in_ok-unless_out_of_memory-in-Err.field-0 first.within first.cycle);
      cycle = λ cycle. c.new.ensures.bytes;
    }
