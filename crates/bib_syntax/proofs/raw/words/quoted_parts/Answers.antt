use Rattle.bib_text.specs.Places.{Longest}
use Rattle.bib_text.proofs.PlaceFacts.{Ahead, ahead_then, ahead_char, ahead_run, ahead_same, ahead_taken, boundary_ahead, left_smaller}
use Rattle.bib_syntax.specs.Grammar.QuotedParts.{none}
use Rattle.bib_syntax.proofs.QuoteFacts.{is_quotable, quoted_then, quoted_run, quoted_hidden, quoted_stuck}
use Rattle.bib_syntax.proofs.ErrorFacts.{quoted_at_end, reported_at_end}
use Rattle.bib_syntax.proofs.ReadingFacts.{error_back, part_from, not_after}
use Rattle.bib_syntax.proofs.raw.words.quoted_parts.Goals as goal
use Rattle.bib_syntax.proofs.raw.words.quoted_parts.Goals.{After-eat_until_either}

-- the run of plain characters at the start of a loop iteration
run : (c : After-eat_until_either) → Longest is_quotable c.parts.s c.eat_until_either.new.self
run c = c.eat_until_either.ensures.longest

passed : (c : After-eat_until_either) → Ahead c.args.s.now c.eat_until_either.new.self
passed c = ahead_then c.parts.invariant.0 (ahead_run (run c).run)

pub from-requires-clause-boundary : goal.from-requires-clause-boundary
from-requires-clause-boundary c =
    boundary_ahead _ (passed (goal.at.from-requires-clause-boundary c).After-eat_until_either)
    c.cursor-start.ensures.boundary

pub from-requires-clause-following : goal.from-requires-clause-following
from-requires-clause-following c =
    not_after _ (passed (goal.at.from-requires-clause-following c).After-eat_until_either) c.cursor-start.ensures.place

pub returns-then-at-clause-found : goal.returns-then-at-clause-found
returns-then-at-clause-found c =
    let r = run (goal.at.returns-then-at-clause-found c).After-eat_until_either in
    let all = quoted_then c.parts.invariant.1 (quoted_run r.run) in
    let char = c.if-at.ensures in
    (all.there _ _ none char.1, char)

pub returns-then-at-clause-reading : goal.returns-then-at-clause-reading
returns-then-at-clause-reading c =
    rw c.new.ensures
    (part_from _ _ _ (passed (goal.at.returns-then-at-clause-reading c).After-eat_until_either)
    c.cursor-start.ensures.place c.cursor.ensures.place c.from.ensures)

pub returns-then-not-eat_if-clause-none : goal.returns-then-not-eat_if-clause-none
returns-then-not-eat_if-clause-none c v w parts quote =
    let r = run (goal.at.returns-then-not-eat_if-clause-none c).After-eat_until_either in
    let all = quoted_then c.parts.invariant.1 (quoted_run r.run) in
    quoted_stuck r.stops c.if-at.ensures c.if-not-eat_if.ensures.1 (all.back v w parts quote) quote

pub returns-then-not-eat_if-clause-error : goal.returns-then-not-eat_if-clause-error
returns-then-not-eat_if-clause-error c =
    error_back
    (ahead_then (passed (goal.at.returns-then-not-eat_if-clause-error c).After-eat_until_either)
    (ahead_same c.if-not-eat_if.ensures.0)) c.error.ensures.syntax

pub returns-then-not-eat_if-clause-end : goal.returns-then-not-eat_if-clause-end
returns-then-not-eat_if-clause-end c =
    let end = quoted_at_end c.eat_until_either.ensures.stopped c.if-at.ensures c.if-not-eat_if.ensures.1 in
    reported_at_end c.error.ensures.here c.if-not-eat_if.ensures.0
    (passed (goal.at.returns-then-not-eat_if-clause-end c).After-eat_until_either) end

pub parts-smaller : goal.parts-smaller
parts-smaller c =
    left_smaller (ahead_run (run (goal.at.parts-smaller c).After-eat_until_either).run) c.if-not-eat_if.ensures
    (ahead_taken _ c.eat.ensures)

pub parts-preserved : goal.parts-preserved
parts-preserved c =
    let at = (goal.at.parts-preserved c).After-eat_until_either in
    let slash = c.if-not-eat_if.ensures in (
      ahead_then (passed at) (ahead_then (ahead_char slash) (ahead_taken _ c.eat.ensures)),
      quoted_then c.parts.invariant.1 (quoted_then (quoted_run (run at).run) (quoted_hidden _ slash c.eat.ensures)),
    )
