use Rattle.std.proofs.Common.{rules, inr}
use Rattle.std.specs.Prelude.{◌==◌}
use Rattle.std.proofs.lemmas.List.{map-append}
use Rattle.std.proofs.lemmas.Result.{err_from_is_err_and}
use Rattle.bib_text.proofs.PlaceFacts.{ahead_here, ahead_then, ahead_char, ahead_same, left_smaller, stops_without}
use Rattle.bib_syntax.specs.Failures.{FailsAt}
use Rattle.bib_syntax.specs.Views.{field_of}
use Rattle.bib_syntax.proofs.FailingFacts.{reports_here}
use Rattle.bib_syntax.proofs.FieldFacts.{no_fields_read, field_read, fields_last, fields_end, ahead_field, ahead_gap, refuses_from}
use Rattle.bib_syntax.specs.SyntaxErrors.{FieldsFails as fails}
use Rattle.bib_syntax.proofs.ErrorFacts.{reports_at, reports_as, reported_same, stops_either}
use Rattle.bib_syntax.proofs.ReadingFacts.{error_back}
use Rattle.bib_syntax.proofs.raw.fields.fields.Goals as goal

pub fields-init : goal.fields-init
fields-init c = (
  ahead_here c.args.s.now,
  rw c.new-pairs.ensures.items (no_fields_read c.args.s.now),
)

pub fields-smaller : goal.fields-smaller
fields-smaller c =
    left_smaller (ahead_then (ahead_field c.in_ok-pair.ensures.found) (ahead_gap c.gap.ensures)) c.if-not-eat_if.ensures
    (ahead_gap c.gap-in-fields.ensures)

pub fields-preserved : goal.fields-preserved
fields-preserved c =
    let one = c.in_ok-pair.ensures.found in (
      ahead_then c.fields.invariant.0
          (ahead_then (ahead_field one)
          (ahead_then (ahead_gap c.gap.ensures)
          (ahead_then (ahead_char c.if-not-eat_if.ensures) (ahead_gap c.gap-in-fields.ensures)))),
      rw (c.in_ok-push.ensures.items, map-append field_of c.fields.pairs.items _)
          (field_read _ c.fields.invariant.1 one c.gap.ensures c.if-not-eat_if.ensures c.gap-in-fields.ensures),
    )

pub returns-in-Some-clause-fails : goal.returns-in-Some-clause-fails
returns-in-Some-clause-fails c =
    let failure : FailsAt c.fields.s.text c.in-Some.error c.fields.s.at = search rules in
    inr (error_back c.fields.invariant.0 failure.error, reports_as c.fields.invariant.1.fails (reports_here failure))

pub returns-in_err-pair-clause-fails : goal.returns-in_err-pair-clause-fails
returns-in_err-pair-clause-fails c =
    let p = err_from_is_err_and c.from_residual-in_err-pair.result c.from_residual-in_err-pair.ensures.1 in
    let read = c.fields.invariant.1 in
    rw (p.1, p.2)
    (refuses_from _ _ c.fields.invariant.0 (reports_as (λ kind v f. read.fails kind v (fails.first f)))
    c.in_err-pair.ensures.fails)

pub returns-then-not-at-clause-fails : goal.returns-then-not-at-clause-fails
returns-then-not-at-clause-fails c =
    let one = c.in_ok-pair.ensures.found in
    let same = c.if-not-eat_if.ensures.0 in
    let passed = ahead_then c.fields.invariant.0 (ahead_then (ahead_field one) (ahead_then (ahead_gap c.gap.ensures) (ahead_same same))) in
    let stops =
    stops_either (λ d. d == 44) (λ d. d == 125) (stops_without 44 c.if-not-eat_if.ensures.1)
    (stops_without 125 (λ x. rw (← same) (c.if-not-at.ensures x))) in
    let failed = c.fields.invariant.1.fails _ _ (fails.comma one c.gap.ensures stops) in
    inr (error_back passed c.error.ensures.syntax, reports_at _ (reported_same c.error.ensures.here same) failed)

pub returns-then-not-eat_if-clause-found : goal.returns-then-not-eat_if-clause-found
returns-then-not-eat_if-clause-found c =
    rw (c.if-not-eat_if.ensures.0, c.in_ok-push.ensures.items, map-append field_of c.fields.pairs.items _)
    (fields_last _ c.fields.invariant.1 c.in_ok-pair.ensures.found c.gap.ensures)

pub returns-in_err-closing_brace-clause-fails : goal.returns-in_err-closing_brace-clause-fails
returns-in_err-closing_brace-clause-fails c =
    let p = err_from_is_err_and c.from_residual-in_err-closing_brace.result c.from_residual-in_err-closing_brace.ensures.1 in
    rw (p.1, p.2)
    (inr (
      error_back c.fields.invariant.0 c.in_err-closing_brace.ensures.error,
      reports_as c.fields.invariant.1.fails c.in_err-closing_brace.ensures.fails,
    ))

pub returns-clause-found : goal.returns-clause-found
returns-clause-found c = fields_end c.fields.invariant.1 c.in_ok-closing_brace.ensures.found.0
