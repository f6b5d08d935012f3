use Rattle.std.proofs.Common.{inr, rules}
use Rattle.std.proofs.lemmas.Result.{err_from_is_err_and}
use Rattle.bib_text.proofs.PlaceFacts.{ahead_run, ahead_then, ahead_char, stops_without}
use Rattle.bib_syntax.proofs.FieldFacts.{ahead_gap, refuses_from}
use Rattle.bib_syntax.proofs.FileFacts.{entry_found}
use Rattle.bib_syntax.specs.SyntaxErrors.{BodyFails as fails}
use Rattle.bib_syntax.proofs.ErrorFacts.{reports_at, reports_as}
use Rattle.bib_syntax.proofs.ReadingFacts.{error_back, taken_if}
use Rattle.bib_syntax.proofs.raw.file.entry.Goals as goal

pub returns-in_err-expect-clause-fails : goal.returns-in_err-expect-clause-fails
returns-in_err-expect-clause-fails c =
    let p = err_from_is_err_and c.from_residual.result c.from_residual.ensures.1 in
    let key = c.key-key.ensures.longest in
    let white = c.eat_whitespace.ensures.longest in
    rw (p.1, p.2)
    (inr (
      error_back (ahead_then (ahead_run key.run) (ahead_run white.run)) c.in_err-expect.ensures.error,
      reports_at _ c.in_err-expect.ensures.here
          (fails.comma key white (stops_without 44 c.in_err-expect.ensures.none)),
    ))

pub returns-in_err-fields-clause-fails : goal.returns-in_err-fields-clause-fails
returns-in_err-fields-clause-fails c =
    let p = err_from_is_err_and c.from_residual-in_err-fields.result c.from_residual-in_err-fields.ensures.1 in
    let key = c.key-key.ensures.longest in
    let white = c.eat_whitespace.ensures.longest in
    let comma = c.in_ok-expect.ensures.found in
    let passed =
    ahead_then (ahead_run key.run)
    (ahead_then (ahead_run white.run) (ahead_then (ahead_char comma) (ahead_gap c.gap.ensures))) in
    rw (p.1, p.2)
    (refuses_from _ _ passed (reports_as (λ kind v f. fails.fields key white comma c.gap.ensures f))
    c.in_err-fields.ensures.fails)

pub returns-clause-found : goal.returns-clause-found
returns-clause-found c u starts =
    rw c.new.ensures (entry_found _ _ _ _ starts c.cursor.ensures.place c.key-key.ensures.reading
    c.key-key.ensures.longest c.eat_whitespace.ensures.longest
    (search rules) c.gap.ensures c.in_ok-fields.ensures.found (taken_if 125 _ c.eat_if.ensures c.in_ok-fields.ensures.closed))
