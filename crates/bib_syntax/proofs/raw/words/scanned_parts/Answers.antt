use Rattle.std.proofs.Common.{ℕ, ◌≡◌, ◌≤◌, ◌<◌, ◌^◌, ◌+◌, zero, arith, ◌∙◌, add-one}
use Rattle.std.specs.Char.{len_utf8}
use Rattle.std.proofs.lemmas.Str.{len_utf8_bounds}
use Rattle.bib_text.specs.Places.{Place, CharAt, Longest}
use Rattle.bib_text.specs.Braces.{is_plain}
use Rattle.bib_text.proofs.PlaceFacts.{Ahead, ahead_here, ahead_then, ahead_char, ahead_run, ahead_same, ahead_taken, boundary_ahead, left_smaller, after_char_small}
use Rattle.bib_syntax.proofs.BraceFacts.{braced_then, braced_run, braced_open, braced_hidden, braced_same, braced_less, braced_stuck, found_parts}
use Rattle.bib_syntax.specs.OpenBraces.{SameBraced}
use Rattle.bib_text.specs.OpenBraces.ClosesOpen.{last}
use Rattle.bib_syntax.proofs.ErrorFacts.{braced_at_end, reported_at_end}
use Rattle.bib_syntax.proofs.ReadingFacts.{error_back, taken_if, part_from, not_after}
use Rattle.bib_syntax.proofs.raw.words.scanned_parts.Goals as goal
use Rattle.bib_syntax.proofs.raw.words.scanned_parts.Goals.{After-eat_until_any}

-- the run of plain characters at the start of a loop iteration
run : (c : After-eat_until_any) → Longest is_plain c.parts.s c.eat_until_any.new.self
run c = c.eat_until_any.ensures.longest

passed : (c : After-eat_until_any) → Ahead c.args.s.now c.eat_until_any.new.self
passed c = ahead_then c.parts.invariant.0 (ahead_run (run c).run)

all : (c : After-eat_until_any) → SameBraced zero c.args.s.now c.parts.depth c.eat_until_any.new.self
all c = braced_then c.parts.invariant.1 (braced_run _ (run c).run)

-- after one more character, the offset is at least one more than the depth
deeper : {u v w : Place} {n : ℕ} {k : ℕ} → n ≤ u.at → Ahead u v → CharAt v k w → n + 1 ≤ w.at
deeper {u} {v} {w} {n} {k} depth run char =
    let width : 1 ≤ len_utf8 k = (len_utf8_bounds k).0 in
    let next : w.at ≡ v.at + len_utf8 k = char.next in
    let ahead : u.at ≤ v.at = run.at in
    omega arith

pub overflow_add-depth : goal.overflow_add-depth
overflow_add-depth c =
    let at = (goal.at.overflow_add-depth c).After-eat_until_any in
    let more : c.parts.depth + 1 ≤ c.eat_if.new.self.at = deeper c.parts.invariant.2 (ahead_run (run at).run) c.if-eat_if.ensures in
    let fits : c.eat_if.new.self.at < 2 ^ 64 = after_char_small c.cursor-start.ensures.fits (passed at) c.if-eat_if.ensures in
    omega arith

pub parts-smaller-then-eat_if : goal.parts-smaller-then-eat_if
parts-smaller-then-eat_if c =
    left_smaller (ahead_run (run (goal.at.parts-smaller-then-eat_if c).After-eat_until_any).run) c.if-eat_if.ensures
    (ahead_here _)

pub parts-preserved-then-eat_if : goal.parts-preserved-then-eat_if
parts-preserved-then-eat_if c =
    let at = (goal.at.parts-preserved-then-eat_if c).After-eat_until_any in (
      ahead_then (passed at) (ahead_char c.if-eat_if.ensures),
      rw add-one (braced_then (all at) (braced_open _ c.if-eat_if.ensures)),
      deeper c.parts.invariant.2 (ahead_run (run at).run) c.if-eat_if.ensures,
    )

pub returns-then-depth-eq0-clause-found : goal.returns-then-depth-eq0-clause-found
returns-then-depth-eq0-clause-found c =
    let here = braced_same (all (goal.at.returns-then-depth-eq0-clause-found c).After-eat_until_any) c.if-eat_if.ensures.0 in
    (found_parts here c.if-depth-eq0.true c.if-at.ensures.1, c.if-at.ensures)

pub parts-smaller-then-at : goal.parts-smaller-then-at
parts-smaller-then-at c =
    let at = (goal.at.parts-smaller-then-at c).After-eat_until_any in
    let close = taken_if 125 _ c.eat_if-then-at.ensures c.if-at.ensures in
    left_smaller (ahead_then (ahead_run (run at).run) (ahead_same c.if-eat_if.ensures.0)) close (ahead_here _)

pub parts-preserved-then-at : goal.parts-preserved-then-at
parts-preserved-then-at c =
    let at = (goal.at.parts-preserved-then-at c).After-eat_until_any in
    let close = taken_if 125 _ c.eat_if-then-at.ensures c.if-at.ensures in
    let here = ahead_then (ahead_same c.if-eat_if.ensures.0) (ahead_char close) in (
      ahead_then (passed at) here,
      braced_less _ (braced_same (all at) c.if-eat_if.ensures.0) c.if-depth-eq0.false close,
      omega (arith, c.parts.invariant.2, (ahead_run (run at).run).at, here.at),
    )

pub parts-smaller : goal.parts-smaller
parts-smaller c =
    let at = (goal.at.parts-smaller c).After-eat_until_any in
    left_smaller (ahead_then (ahead_run (run at).run) (ahead_same c.if-eat_if.ensures.0)) c.if-eat_if-2.ensures
    (ahead_taken _ c.eat.ensures)

pub parts-preserved : goal.parts-preserved
parts-preserved c =
    let at = (goal.at.parts-preserved c).After-eat_until_any in
    let here =
    ahead_then (ahead_same c.if-eat_if.ensures.0)
    (ahead_then (ahead_char c.if-eat_if-2.ensures) (ahead_taken _ c.eat.ensures)) in (
      ahead_then (passed at) here,
      braced_then (braced_same (all at) c.if-eat_if.ensures.0) (braced_hidden _ _ c.if-eat_if-2.ensures c.eat.ensures),
      omega (arith, c.parts.invariant.2, (ahead_run (run at).run).at, here.at),
    )

pub returns-else-eat_if-2-clause-none : goal.returns-else-eat_if-2-clause-none
returns-else-eat_if-2-clause-none c v w parts close =
    let at = (goal.at.returns-else-eat_if-2-clause-none c).After-eat_until_any in
    let same = c.if-eat_if.ensures.0 in
    let there = (all at).back v w (last parts) close in
    braced_stuck (run at).stops c.if-eat_if.ensures.1 (λ x. rw (← same) (c.if-at.ensures x))
    (λ x. rw (← same) (c.if-eat_if-2.ensures.1 x)) there close

pub returns-else-eat_if-2-clause-error : goal.returns-else-eat_if-2-clause-error
returns-else-eat_if-2-clause-error c =
    let at = (goal.at.returns-else-eat_if-2-clause-error c).After-eat_until_any in
    error_back
    (ahead_then (passed at) (ahead_then (ahead_same c.if-eat_if.ensures.0) (ahead_same c.if-eat_if-2.ensures.0)))
    c.error.ensures.syntax

pub returns-else-eat_if-2-clause-end : goal.returns-else-eat_if-2-clause-end
returns-else-eat_if-2-clause-end c =
    let same = c.if-eat_if.ensures.0 in
    let end =
    braced_at_end c.eat_until_any.ensures.stopped c.if-eat_if.ensures.1 (λ x. rw (← same) (c.if-at.ensures x))
    (λ x. rw (← same) (c.if-eat_if-2.ensures.1 x)) in
    reported_at_end c.error.ensures.here (c.if-eat_if-2.ensures.0 ∙ same)
    (passed (goal.at.returns-else-eat_if-2-clause-end c).After-eat_until_any) end

pub from-requires-clause-boundary : goal.from-requires-clause-boundary
from-requires-clause-boundary c =
    let at = (goal.at.from-requires-clause-boundary c).After-eat_until_any in
    boundary_ahead _ (ahead_then (passed at) (ahead_same c.if-eat_if.ensures.0)) c.cursor-start.ensures.boundary

pub from-requires-clause-following : goal.from-requires-clause-following
from-requires-clause-following c =
    let at = (goal.at.from-requires-clause-following c).After-eat_until_any in
    not_after _ (ahead_then (passed at) (ahead_same c.if-eat_if.ensures.0)) c.cursor-start.ensures.place

pub returns-then-depth-eq0-clause-reading : goal.returns-then-depth-eq0-clause-reading
returns-then-depth-eq0-clause-reading c =
    let at = (goal.at.returns-then-depth-eq0-clause-reading c).After-eat_until_any in
    rw c.new.ensures
    (part_from _ _ _ (ahead_then (passed at) (ahead_same c.if-eat_if.ensures.0)) c.cursor-start.ensures.place
    c.cursor.ensures.place c.from.ensures)
