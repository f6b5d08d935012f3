use Rattle.std.proofs.lemmas.Result.{err_from_is_err_and}
use Rattle.biblatex_c.proofs.FailureFacts.{reading_fails}
use Rattle.biblatex_c.proofs.editing.read.Goals as goal

pub returns-in_err-document-clause-fails : goal.returns-in_err-document-clause-fails
returns-in_err-document-clause-fails c =
    let p = err_from_is_err_and c.from_residual.result c.from_residual.ensures.1 in
    rw (p.1, p.2) (reading_fails c.args.text.now c.in_err-document.field-0.0 c.in_err-document.ensures.refused)
