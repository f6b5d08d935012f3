use Rattle.std.proofs.Common.{sym, subst, string_bytes}
use Rattle.std.proofs.lemmas.Result.{IfOk-weaker}
use Rattle.bibkit_edits.specs.UninheritedNotes.{AreNotesOn, AreUninheritedNotes}
use Rattle.bibkit_edits.specs.UninheritedNotes.{AreUninheritedNotes as notes}
use Rattle.bibkit_edits.proofs.LeftNoteFacts.{no_file}
use Rattle.bibkit_edits.proofs.uninherited_notes.uninherited_notes.Goals as goal

pub returns-in-Ok : goal.returns-in-Ok
returns-in-Ok c =
    IfOk-weaker c.document_notes.result (λ made. AreNotesOn c.args.name.now c.in-Ok.document (string_bytes made))
    (λ made. AreUninheritedNotes c.args.name.now c.args.text.now (string_bytes made))
    (λ made are. notes.notes (record { same = c.in-Ok.ensures.same; read = c.in-Ok.ensures.read }) are) c.document_notes.ensures

pub returns-in_ok-unless_out_of_memory-in-Err : goal.returns-in_ok-unless_out_of_memory-in-Err
returns-in_ok-unless_out_of_memory-in-Err c =
    subst (AreUninheritedNotes c.args.name.now c.args.text.now) (sym c.new.ensures.bytes)
    (notes.none (no_file c.args.text.now c.in-Err.error c.in_ok-unless_out_of_memory-in-Err.ensures.ok c.in-Err.ensures.refused))
