use Rattle.std.proofs.Common.{refl, false}
use Rattle.bib_text.proofs.PlaceFacts.{ahead_run, stops_without, test_clash}
use Rattle.bib_syntax.specs.SyntaxErrors.{FieldsFails as fails}
use Rattle.bib_syntax.proofs.ErrorFacts.{reports_at}
use Rattle.bib_syntax.proofs.ReadingFacts.{error_back}
use Rattle.bib_syntax.proofs.raw.fields.closing_brace.Goals as goal

pub returns-then-done-clause-fails : goal.returns-then-done-clause-fails
returns-then-done-clause-fails c =
    reports_at _ c.error.ensures.here
    (fails.ended c.requires c.eat_whitespace.ensures.longest (c.done.ensures.0 c.if-done.true))

pub returns-then-done-clause-error : goal.returns-then-done-clause-error
returns-then-done-clause-error c = error_back (ahead_run c.eat_whitespace.ensures.longest.run) c.error.ensures.syntax

pub returns-clause-fails : goal.returns-clause-fails
returns-clause-fails c =
    reports_at _ c.error-2.ensures.here
    (fails.name c.requires c.eat_whitespace.ensures.longest (stops_without 125 c.if-at.ensures)
    (λ end. test_clash false (c.if-done.ensures.1 end) refl))

pub returns-clause-error : goal.returns-clause-error
returns-clause-error c = error_back (ahead_run c.eat_whitespace.ensures.longest.run) c.error-2.ensures.syntax
