use Rattle.std.proofs.Common.{inr}
use Rattle.std.proofs.lemmas.Result.{err_from_is_err_and}
use Rattle.bib_text.proofs.PlaceFacts.{ahead_then, ahead_run, ahead_char, stops_without}
use Rattle.bib_syntax.specs.SyntaxErrors.{FieldFails as fails}
use Rattle.bib_syntax.proofs.ErrorFacts.{reports_at, reports_as, identifier_begins}
use Rattle.bib_syntax.proofs.FieldFacts.{ahead_identifier, refuses_from}
use Rattle.bib_syntax.proofs.ReadingFacts.{error_back}
use Rattle.bib_syntax.proofs.raw.fields.field.Goals as goal

pub returns-in_err-name-clause-fails : goal.returns-in_err-name-clause-fails
returns-in_err-name-clause-fails c =
    let p = err_from_is_err_and c.from_residual.result c.from_residual.ensures.1 in
    rw (p.1, p.2)
    (inr (
      c.in_err-name.ensures.error,
      reports_as (λ kind v f. absurd (identifier_begins c.requires f)) c.in_err-name.ensures.fails,
    ))

pub returns-in_err-expect-clause-fails : goal.returns-in_err-expect-clause-fails
returns-in_err-expect-clause-fails c =
    let p = err_from_is_err_and c.from_residual-in_err-expect.result c.from_residual-in_err-expect.ensures.1 in
    let name = c.in_ok-name.ensures.found in
    let white = c.eat_whitespace.ensures.longest in
    rw (p.1, p.2) (inr (
      error_back (ahead_then (ahead_identifier name) (ahead_run white.run)) c.in_err-expect.ensures.error,
      reports_at _ c.in_err-expect.ensures.here (fails.equals name white (stops_without 61 c.in_err-expect.ensures.none)),
    ))

pub returns-in_err-pieces-clause-fails : goal.returns-in_err-pieces-clause-fails
returns-in_err-pieces-clause-fails c =
    let p = err_from_is_err_and c.from_residual-in_err-pieces.result c.from_residual-in_err-pieces.ensures.1 in
    let name = c.in_ok-name.ensures.found in
    let white = c.eat_whitespace.ensures.longest in
    let sign = c.in_ok-expect.ensures.found in
    let white2 = c.eat_whitespace-2.ensures.longest in
    let passed =
    ahead_then (ahead_identifier name)
    (ahead_then (ahead_run white.run) (ahead_then (ahead_char sign) (ahead_run white2.run))) in
    rw (p.1, p.2) (refuses_from _ _ passed (reports_as (λ kind v f. fails.value name white sign white2 f)) c.in_err-pieces.ensures.fails)
