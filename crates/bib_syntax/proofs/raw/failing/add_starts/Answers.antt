use Rattle.std.proofs.Common.{rules, inr}
use Rattle.std.proofs.lemmas.Result.{err_from_is_err_and}
use Rattle.bib_text.proofs.PlaceFacts.{ahead_here, ahead_then, ahead_char, ahead_same, left_smaller, stops_without}
use Rattle.std.specs.Prelude.{◌==◌}
use Rattle.bib_syntax.specs.Failures.{FailsAt}
use Rattle.bib_syntax.proofs.FailingFacts.{FailBefore, none_more, here_fails, further_fails, each_fails, reports_here}
use Rattle.bib_syntax.proofs.FieldFacts.{ahead_field, ahead_gap}
use Rattle.bib_syntax.specs.SyntaxErrors.{FieldsFails as fails}
use Rattle.bib_syntax.proofs.ErrorFacts.{reports_at, reports_as, reported_same, stops_either}
use Rattle.bib_syntax.proofs.ReadingFacts.{error_back}
use Rattle.bib_syntax.proofs.raw.failing.add_starts.Goals as goal
use Rattle.bib_syntax.proofs.raw.failing.add_starts.Goals.{In_ok-push}

-- each failure from the field that begins here is a failure from each of the kept offsets
begun : (c : In_ok-push) → FailBefore c.args.s.now.text c.args.starts.now.items c.push.new.self.items c.fields.s
begun c = rw c.in_ok-push.ensures.items (here_fails _ c.fields.invariant.1 c.fields.invariant.0.text c.cursor.ensures.place)

pub fields-init : goal.fields-init
fields-init c = (ahead_here c.args.s.now, none_more c.args.s.now.text c.args.starts.now.items c.args.s.now)

pub fields-smaller : goal.fields-smaller
fields-smaller c =
    left_smaller (ahead_then (ahead_field c.in_ok-field.ensures.found) (ahead_gap c.gap.ensures)) c.if-not-eat_if.ensures
    (ahead_gap c.gap-in-fields.ensures)

pub fields-preserved : goal.fields-preserved
fields-preserved c =
    let one = c.in_ok-field.ensures.found in (
      ahead_then c.fields.invariant.0
          (ahead_then (ahead_field one)
          (ahead_then (ahead_gap c.gap.ensures)
          (ahead_then (ahead_char c.if-not-eat_if.ensures) (ahead_gap c.gap-in-fields.ensures)))),
      further_fails (begun (goal.at.fields-preserved c).In_ok-push)
          (λ kind v f. fails.more one c.gap.ensures c.if-not-eat_if.ensures c.gap-in-fields.ensures f),
    )

pub returns-in-Some : goal.returns-in-Some
returns-in-Some c some all =
    let failure : FailsAt c.fields.s.text c.in-Some.error c.fields.s.at = search rules in
    c.fields.invariant.1.each _ (error_back c.fields.invariant.0 failure.error) (reports_here failure) all

pub returns-in_err-field : goal.returns-in_err-field
returns-in_err-field c =
    let p = err_from_is_err_and c.from_residual-in_err-field.result c.from_residual-in_err-field.ensures.1 in
    let here = begun (goal.at.returns-in_err-field c).In_ok-push in
    rw (p.1, p.2) (each_fails _ here c.fields.invariant.0.text (reports_as (λ kind v f. fails.first f)) c.in_err-field.ensures.fails)

pub returns-then-not-at : goal.returns-then-not-at
returns-then-not-at c some all =
    let one = c.in_ok-field.ensures.found in
    let same = c.if-not-eat_if.ensures.0 in
    let passed = ahead_then c.fields.invariant.0 (ahead_then (ahead_field one) (ahead_then (ahead_gap c.gap.ensures) (ahead_same same))) in
    let stops =
    stops_either (λ d. d == 44) (λ d. d == 125) (stops_without 44 c.if-not-eat_if.ensures.1)
    (stops_without 125 (λ x. rw (← same) (c.if-not-at.ensures x))) in
    let failed = reports_at _ (reported_same c.error.ensures.here same) (fails.comma one c.gap.ensures stops) in
    (begun (goal.at.returns-then-not-at c).In_ok-push).each _ (error_back passed c.error.ensures.syntax) failed all

pub returns-in_err-closing_brace : goal.returns-in_err-closing_brace
returns-in_err-closing_brace c =
    let p = err_from_is_err_and c.from_residual-in_err-closing_brace.result c.from_residual-in_err-closing_brace.ensures.1 in
    rw (p.1, p.2)
    (each_fails _ c.fields.invariant.1 c.fields.invariant.0.text (λ r. r)
    (inr (c.in_err-closing_brace.ensures.error, c.in_err-closing_brace.ensures.fails)))
