use Rattle.std.specs.Prelude.{◌==◌, ◌||◌}
use Rattle.std.proofs.lemmas.Result.{err_from_is_err_and}
use Rattle.bib_text.proofs.PlaceFacts.{ahead_then, ahead_run, ahead_char}
use Rattle.bib_syntax.proofs.FieldFacts.{ahead_identifier}
use Rattle.bib_syntax.specs.SyntaxErrors.{HeadFails as fails}
use Rattle.bib_syntax.proofs.ErrorFacts.{reports_at, reports_as, stops_unless}
use Rattle.bib_syntax.proofs.ReadingFacts.{error_back, taken_if}
use Rattle.bib_syntax.proofs.raw.file.head.Goals as goal
use Rattle.bib_syntax.proofs.raw.file.head.Goals.{After-eat_if}
use Rattle.bib_text.specs.Places.{CharAt}

sign : (c : After-eat_if) → CharAt c.args.s.now 64 c.eat_if.new.self
sign c = taken_if 64 _ c.eat_if.ensures c.requires

pub returns-in_err-kind-clause-fails : goal.returns-in_err-kind-clause-fails
returns-in_err-kind-clause-fails c =
    let p = err_from_is_err_and c.from_residual.result c.from_residual.ensures.1 in
    let at = (goal.at.returns-in_err-kind-clause-fails c).After-eat_if in
    rw (p.1, p.2) (reports_as (λ kind v f. fails.name (sign at) f) c.in_err-kind.ensures.fails)

pub returns-in_err-brace-clause-fails : goal.returns-in_err-brace-clause-fails
returns-in_err-brace-clause-fails c =
    let p = err_from_is_err_and c.from_residual-in_err-brace.result c.from_residual-in_err-brace.ensures.1 in
    let at = (goal.at.returns-in_err-brace-clause-fails c).After-eat_if in
    let stops = stops_unless (λ d. d == 123 || d == 34) c.in_err-brace.ensures.none in
    rw (p.1, p.2)
    (reports_at _ c.in_err-brace.ensures.here
    (fails.brace (sign at) c.in_ok-kind.ensures.found c.eat_whitespace.ensures.longest stops))

pub returns-in_err-kind-clause-error : goal.returns-in_err-kind-clause-error
returns-in_err-kind-clause-error c =
    let p = err_from_is_err_and c.from_residual.result c.from_residual.ensures.1 in
    rw (p.1, p.2) (error_back (ahead_char (sign (goal.at.returns-in_err-kind-clause-error c).After-eat_if)) c.in_err-kind.ensures.error)

pub returns-in_err-brace-clause-error : goal.returns-in_err-brace-clause-error
returns-in_err-brace-clause-error c =
    let p = err_from_is_err_and c.from_residual-in_err-brace.result c.from_residual-in_err-brace.ensures.1 in
    let passed =
    ahead_then (ahead_char (sign (goal.at.returns-in_err-brace-clause-error c).After-eat_if))
    (ahead_then (ahead_identifier c.in_ok-kind.ensures.found) (ahead_run c.eat_whitespace.ensures.longest.run)) in
    rw (p.1, p.2) (error_back passed c.in_err-brace.ensures.error)

pub returns-clause-found : goal.returns-clause-found
returns-clause-found c = record {
  name_start = _;
  name_end = _;
  before_brace = _;
  after_brace = _;
  brace = c.in_ok-brace.ensures.found.0;
  sign = sign (goal.at.returns-clause-found c).After-eat_if;
  name = c.in_ok-kind.ensures.found;
  white = c.eat_whitespace.ensures.longest;
  opens = c.in_ok-brace.ensures.found.1;
  is_brace = c.in_ok-brace.ensures.found.2;
  white' = c.eat_whitespace-2.ensures.longest;
}
