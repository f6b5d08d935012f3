use Rattle.std.proofs.lemmas.Result.{err_from_is_err_and}
use Rattle.bib_text.proofs.PlaceFacts.{ahead_here}
use Rattle.bib_syntax.specs.Grammar.{Body as body}
use Rattle.bib_syntax.specs.SyntaxErrors.{BodyFails as fails}
use Rattle.bib_syntax.proofs.ErrorFacts.{reports_as}
use Rattle.bib_syntax.proofs.FieldFacts.{refuses_from}
use Rattle.bib_syntax.proofs.ReadingFacts.{taken_if}
use Rattle.bib_syntax.proofs.raw.file.strings.Goals as goal

pub returns-clause-found : goal.returns-clause-found
returns-clause-found c u p = body.strings c.in_ok-pairs.ensures.found (taken_if 125 _ c.eat_if.ensures c.in_ok-pairs.ensures.closed)

pub returns-in_err-pairs-clause-fails : goal.returns-in_err-pairs-clause-fails
returns-in_err-pairs-clause-fails c =
    let p = err_from_is_err_and c.from_residual.result c.from_residual.ensures.1 in
    rw (p.1, p.2) (refuses_from _ _ (ahead_here c.args.s.now) (reports_as (λ kind v f. fails.strings f)) c.in_err-pairs.ensures.fails)
