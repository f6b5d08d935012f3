use Rattle.std.proofs.Common.{◌∙◌, subst, sym}
use Rattle.bib_text.specs.Places.{AtEnd, Longest}
use Rattle.bib_text.specs.Braces.{is_plain}
use Rattle.bib_text.proofs.PlaceFacts.{ahead_here, ahead_run, ahead_then, ahead_same, ahead_taken, left_smaller}
use Rattle.bib_syntax.proofs.ClosingFacts.{braces_past_run, braces_past_open, braces_past_close, braces_past_hidden, braces_same}
use Rattle.bib_syntax.proofs.ErrorFacts.{braced_at_end}
use Rattle.bib_syntax.proofs.ReadingFacts.{taken_if}
use Rattle.bib_syntax.proofs.raw.closings.Braces.pass.Goals as goal
use Rattle.bib_syntax.proofs.raw.closings.Braces.pass.Goals.{After-eat_until_any}

run : (c : After-eat_until_any) → Longest is_plain c.args.s.now c.eat_until_any.new.self
run c = c.eat_until_any.ensures.longest

pub returns-then-eat_if-clause-braces : goal.returns-then-eat_if-clause-braces
returns-then-eat_if-clause-braces c text braces =
    let at = (goal.at.returns-then-eat_if-clause-braces c).After-eat_until_any in
    braces_past_open text _ _ _ _ c.if-eat_if.ensures c.cursor.ensures.place c.in_ok-push.ensures.items
    (braces_past_run text _ _ (run at).run braces)

pub returns-then-eat_if-clause-goes_on : goal.returns-then-eat_if-clause-goes_on
returns-then-eat_if-clause-goes_on c =
    left_smaller (ahead_run (run (goal.at.returns-then-eat_if-clause-goes_on c).After-eat_until_any).run) c.if-eat_if.ensures (ahead_here _)

pub returns-then-at-clause-braces : goal.returns-then-at-clause-braces
returns-then-at-clause-braces c text braces =
    let at = (goal.at.returns-then-at-clause-braces c).After-eat_until_any in
    let close = taken_if 125 _ c.eat_if-then-at.ensures c.if-at.ensures in
    braces_past_close text _ _ _ _ _ close c.cursor-then-at.ensures.place c.in_ok-close.ensures
    (braces_same text _ _ c.if-eat_if.ensures.0 (braces_past_run text _ _ (run at).run braces))

pub returns-then-at-clause-goes_on : goal.returns-then-at-clause-goes_on
returns-then-at-clause-goes_on c =
    let close = taken_if 125 _ c.eat_if-then-at.ensures c.if-at.ensures in
    left_smaller
    (ahead_then (ahead_run (run (goal.at.returns-then-at-clause-goes_on c).After-eat_until_any).run)
    (ahead_same c.if-eat_if.ensures.0)) close (ahead_here _)

pub returns-then-eat_if-2-clause-braces : goal.returns-then-eat_if-2-clause-braces
returns-then-eat_if-2-clause-braces c text braces =
    let at = (goal.at.returns-then-eat_if-2-clause-braces c).After-eat_until_any in
    braces_past_hidden text _ _ _ c.if-eat_if-2.ensures c.eat.ensures
    (braces_same text _ _ c.if-eat_if.ensures.0 (braces_past_run text _ _ (run at).run braces))

pub returns-then-eat_if-2-clause-goes_on : goal.returns-then-eat_if-2-clause-goes_on
returns-then-eat_if-2-clause-goes_on c =
    left_smaller
    (ahead_then (ahead_run (run (goal.at.returns-then-eat_if-2-clause-goes_on c).After-eat_until_any).run)
    (ahead_same c.if-eat_if.ensures.0)) c.if-eat_if-2.ensures (ahead_taken _ c.eat.ensures)

pub returns-clause-braces : goal.returns-clause-braces
returns-clause-braces c text braces =
    let at = (goal.at.returns-clause-braces c).After-eat_until_any in
    braces_same text _ _ (c.if-eat_if-2.ensures.0 ∙ c.if-eat_if.ensures.0) (braces_past_run text _ _ (run at).run braces)

pub returns-clause-goes_on : goal.returns-clause-goes_on
returns-clause-goes_on c =
    let same = c.if-eat_if.ensures.0 in
    let end =
    braced_at_end c.eat_until_any.ensures.stopped c.if-eat_if.ensures.1 (λ x. rw (← same) (c.if-at.ensures x))
    (λ x. rw (← same) (c.if-eat_if-2.ensures.1 x)) in
    subst AtEnd (sym (c.if-eat_if-2.ensures.0 ∙ same)) end
