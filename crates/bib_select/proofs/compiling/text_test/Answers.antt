use Rattle.std.proofs.lemmas.Result.{err_from_is_err_and}
use Rattle.bib_select.proofs.CompileFacts.{error_of_more}
use Rattle.bib_select.proofs.compiling.text_test.Goals as goal

pub returns-in_err-expression-in-Matches-clause-refused : goal.returns-in_err-expression-in-Matches-clause-refused
returns-in_err-expression-in-Matches-clause-refused c =
    let p =
    err_from_is_err_and c.from_residual-in_err-expression-in-Matches.result
    c.from_residual-in_err-expression-in-Matches.ensures.1 in
    rw (p.1, p.2) (error_of_more _ (λ source at is. (c.in-Matches.is, is)) c.in_err-expression-in-Matches.ensures.refused)
