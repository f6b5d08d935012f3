use Rattle.std.proofs.lemmas.Result.{err_from_is_err_and}
use Rattle.bib_text.proofs.PlaceFacts.{stops_without, ahead_char}
use Rattle.bib_syntax.specs.SyntaxErrors.{QuotedFails as fails}
use Rattle.bib_syntax.proofs.ErrorFacts.{reports_at, reports_end}
use Rattle.bib_syntax.proofs.raw.words.quoted_text.Goals as goal

pub returns-in_err-expect-clause-fails : goal.returns-in_err-expect-clause-fails
returns-in_err-expect-clause-fails c =
    let p = err_from_is_err_and c.from_residual.result c.from_residual.ensures.1 in
    rw (p.1, p.2) (reports_at _ c.in_err-expect.ensures.here (fails.missing (stops_without 34 c.in_err-expect.ensures.none)))

pub returns-in_err-text-clause-fails : goal.returns-in_err-text-clause-fails
returns-in_err-text-clause-fails c =
    let p = err_from_is_err_and c.from_residual-in_err-text.result c.from_residual-in_err-text.ensures.1 in
    rw (p.1, p.2)
    (reports_end (ahead_char c.in_ok-expect.ensures.found) c.in_err-text.ensures.end
    (fails.unclosed c.in_ok-expect.ensures.found c.in_err-text.ensures.none))
