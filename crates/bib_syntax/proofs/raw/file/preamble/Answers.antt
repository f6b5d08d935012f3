use Rattle.std.specs.Prelude.{◌==◌, ◌||◌}
use Rattle.std.proofs.Common.{refl, ap}
use Rattle.std.proofs.lemmas.Result.{err_from_is_err_and}
use Rattle.bib_text.proofs.PlaceFacts.{ahead_run, ahead_then, boundary_ahead}
use Rattle.bib_syntax.specs.Grammar.{Body as body}
use Rattle.bib_syntax.proofs.FieldFacts.{ahead_quoted}
use Rattle.bib_syntax.specs.SyntaxErrors.{BodyFails as fails}
use Rattle.bib_syntax.proofs.ErrorFacts.{reports_at, reports_as, stops_unless}
use Rattle.bib_syntax.proofs.ReadingFacts.{error_back, not_after, part_from}
use Rattle.bib_syntax.proofs.raw.file.preamble.Goals as goal

pub returns-in_err-quoted_text-clause-fails : goal.returns-in_err-quoted_text-clause-fails
returns-in_err-quoted_text-clause-fails c =
    let p = err_from_is_err_and c.from_residual.result c.from_residual.ensures.1 in
    rw (p.1, p.2) (reports_as (λ kind v f. fails.preamble f) c.in_err-quoted_text.ensures.fails)

pub from-text-requires-clause-boundary : goal.from-text-requires-clause-boundary
from-text-requires-clause-boundary c = boundary_ahead _ (ahead_quoted c.in_ok-quoted_text.ensures.found) c.cursor-start.ensures.boundary

pub from-text-requires-clause-following : goal.from-text-requires-clause-following
from-text-requires-clause-following c = not_after _ (ahead_quoted c.in_ok-quoted_text.ensures.found) c.cursor-start.ensures.place

pub returns-in_err-brace-clause-fails : goal.returns-in_err-brace-clause-fails
returns-in_err-brace-clause-fails c =
    let p = err_from_is_err_and c.from_residual-in_err-brace.result c.from_residual-in_err-brace.ensures.1 in
    let stops = stops_unless (λ d. d == 125 || d == 34) c.in_err-brace.ensures.none in
    rw (p.1, p.2)
    (reports_at _ c.in_err-brace.ensures.here
    (fails.preamble_end c.in_ok-quoted_text.ensures.found c.eat_whitespace.ensures.longest stops))

pub returns-in_err-brace-clause-error : goal.returns-in_err-brace-clause-error
returns-in_err-brace-clause-error c =
    let p = err_from_is_err_and c.from_residual-in_err-brace.result c.from_residual-in_err-brace.ensures.1 in
    rw (p.1, p.2)
    (error_back
    (ahead_then (ahead_quoted c.in_ok-quoted_text.ensures.found) (ahead_run c.eat_whitespace.ensures.longest.run))
    c.in_err-brace.ensures.error)

pub returns-clause-found : goal.returns-clause-found
returns-clause-found c u p =
    let close = c.in_ok-brace.ensures.found in
    let text =
    ap (λ q. q.text)
    (part_from _ c.quoted_text.new.s.at _ (ahead_quoted c.in_ok-quoted_text.ensures.found) c.cursor-start.ensures.place
    refl c.from-text.ensures) in
    rw text (body.preamble c.in_ok-quoted_text.ensures.found c.eat_whitespace.ensures.longest close.1 close.2)
