use Rattle.bibkit_edits.proofs.EditedFacts.{step_refused}
use Rattle.bibkit_edits.proofs.editing.edit_parsed.Goals as goal

pub returns-in-Err-edit_safely-clause-refused : goal.returns-in-Err-edit_safely-clause-refused
returns-in-Err-edit_safely-clause-refused c =
    rw c.refusal.ensures (step_refused c.args.edit.now c.args.text.now c.args.index c.in-Ok.document c.in-Err-edit_safely.step
    (record { same = c.in-Ok.ensures.same; read = c.in-Ok.ensures.read }) c.in-Err-edit_safely.ensures.refused)
