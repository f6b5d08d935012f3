use Rattle.std.proofs.lemmas.Result.{err_from_is_err_and}
use Rattle.bib_text.proofs.PlaceFacts.{ahead_run}
use Rattle.bib_syntax.specs.Grammar.{Body as body}
use Rattle.bib_syntax.specs.SyntaxErrors.{BodyFails as fails}
use Rattle.bib_syntax.proofs.ErrorFacts.{reports_at, comment_at_end}
use Rattle.bib_syntax.proofs.ReadingFacts.{error_back}
use Rattle.bib_syntax.proofs.raw.file.comment.Goals as goal

pub returns-in_err-expect-clause-fails : goal.returns-in_err-expect-clause-fails
returns-in_err-expect-clause-fails c =
    let p = err_from_is_err_and c.from_residual.result c.from_residual.ensures.1 in
    let end = comment_at_end c.eat_to_brace.ensures.stopped (λ d is. is) c.in_err-expect.ensures.none in
    rw (p.1, p.2) (reports_at _ c.in_err-expect.ensures.here (fails.comment c.eat_to_brace.ensures.longest end))

pub returns-in_err-expect-clause-error : goal.returns-in_err-expect-clause-error
returns-in_err-expect-clause-error c =
    let p = err_from_is_err_and c.from_residual.result c.from_residual.ensures.1 in
    rw (p.1, p.2) (error_back (ahead_run c.eat_to_brace.ensures.longest.run) c.in_err-expect.ensures.error)

pub returns-clause-found : goal.returns-clause-found
returns-clause-found c u p = body.comment _ c.eat_to_brace.ensures.longest c.in_ok-expect.ensures.found
