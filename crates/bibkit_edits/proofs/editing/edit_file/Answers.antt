use Rattle.std.proofs.lemmas.Result.{err_from_is_err_and}
use Rattle.std.proofs.Common.{subst}
use Rattle.bibkit_edits.specs.Edited.{AreRefused}
use Rattle.bibkit_edits.specs.Edited.IsFileRefused.{no_memory, not_utf8, text}
use Rattle.bibkit_edits.proofs.editing.edit_file.Goals as goal

pub returns-in_err-new-in-Ok-clause-refused : goal.returns-in_err-new-in-Ok-clause-refused
returns-in_err-new-in-Ok-clause-refused c =
    let p = err_from_is_err_and c.from_residual.result c.from_residual.ensures.1 in
    rw (p.1, p.2)
    (text c.in-Ok.ensures.utf8
    (subst (λ t. AreRefused c.args.edits.now t c.in_err-new-in-Ok.field-0.0) c.in-Ok.ensures.text
    c.in_err-new-in-Ok.ensures.refused))

pub returns-in_err-with_mark-in-Ok-clause-refused :
    goal.returns-in_err-with_mark-in-Ok-clause-refused
returns-in_err-with_mark-in-Ok-clause-refused c =
    let p = err_from_is_err_and c.from_residual-in_err-with_mark-in-Ok.result c.from_residual-in_err-with_mark-in-Ok.ensures.1 in
    rw (p.1, p.2) no_memory

pub returns-in-Err-clause-refused : goal.returns-in-Err-clause-refused
returns-in-Err-clause-refused c = not_utf8 c.in-Err.ensures.invalid
