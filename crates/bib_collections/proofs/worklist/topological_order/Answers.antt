use Rattle.std.proofs.lemmas.Grind.{common_steps}
use Rattle.std.proofs.Common.{ℕ, ◌≡◌, ◌<◌, ◌++◌, ◌∷◌, [], cond, eqb, length, arith, ap, sym, ◌∙◌, subst}
use Rattle.std.proofs.lemmas.List.{nil_from_length, get_or_default, with_items_is}
use Rattle.bib_collections.specs.Graph.{refs_of}
use Rattle.bib_collections.specs.Rows.{rows}
use Rattle.bib_collections.specs.Work.{IsWork, times, missing_at}
use Rattle.bib_collections.proofs.Order.{no_cycle_from_order}
use Rattle.bib_collections.proofs.Rows.{length-rows, row_at}
use Rattle.bib_collections.proofs.Start.{work_none}
use Rattle.bib_collections.proofs.Work.{IsNextInOrder, next_from_ready, enough, waiting_below, waiting_in_range, work_more, cycle_from_stuck, whole_order}
use Rattle.bib_collections.proofs.worklist.topological_order.Goals as goal
use Rattle.bib_collections.proofs.worklist.topological_order.Goals.{In-Some, After-deref-in-Some}

work_at : (c : In-Some)
    → IsWork (rows c.args.refs.now) c.loop-index.order.items c.loop-index.missing.items
    (c.pop.new.self.items ++ c.in-Some.index ∷ [])
work_at c =
    subst (IsWork (rows c.args.refs.now) c.loop-index.order.items c.loop-index.missing.items) c.in-Some.ensures.items
    c.loop-index.invariant

order_at : (c : In-Some) → IsNextInOrder (rows c.args.refs.now) c.loop-index.order.items c.loop-index.missing.items c.in-Some.index
order_at c =
    next_from_ready (rows c.args.refs.now) c.loop-index.order.items c.loop-index.missing.items c.pop.new.self.items
    c.in-Some.index (work_at c)

waiting_row : (c : After-deref-in-Some) → c.in-Some.index < length (rows c.args.refs.now)
    → c.deref-in-Some.result.now ≡ refs_of (rows c.in_ok-waiting.waiting.items) c.in-Some.index
waiting_row c within =
    let waiting = c.in_ok-waiting.waiting.items in
    c.deref-in-Some.ensures.value
    ∙ sym
    (row_at waiting c.in-Some.index c.index.result.now
    (omega (arith, within, c.in_ok-waiting.ensures.0, length-rows waiting)) c.index.ensures)

pub loop-index-init : goal.loop-index-init
loop-index-init c =
    let ready =
    subst (λ m. (p : ℕ) → times p c.in_ok-ready.ready.items ≡ cond (eqb (missing_at m p) 0) 1 0)
    c.deref.ensures.value c.in_ok-ready.ensures in
    rw c.new-order.ensures.items
    (work_none c.args.refs.now c.in_ok-missing.missing.items c.in_ok-ready.ready.items c.in_ok-missing.ensures ready)

pub index-requires : goal.index-requires
index-requires c =
    let t = order_at (goal.at.index-requires c).In-Some in
    omega (arith, t.within, c.in_ok-waiting.ensures.0, length-rows c.in_ok-waiting.waiting.items, c.in_ok-waiting.waiting.ok.0)

pub release-requires-clause-below : goal.release-requires-clause-below
release-requires-clause-below c =
    let within = (order_at (goal.at.release-requires-clause-below c).In-Some).within in
    rw (c.deref_mut.ensures.value, waiting_row c within, c.loop-index.invariant.missing_length)
    (waiting_below (rows c.args.refs.now) c.in-Some.index (rows c.in_ok-waiting.waiting.items) c.in_ok-waiting.ensures)

pub release-requires-clause-enough : goal.release-requires-clause-enough
release-requires-clause-enough c =
    let at = (goal.at.release-requires-clause-enough c).In-Some in
    let within = (order_at at).within in
    rw (c.deref_mut.ensures.value, waiting_row c within)
    (enough (rows c.args.refs.now) c.loop-index.order.items c.loop-index.missing.items c.pop.new.self.items
    c.in-Some.index (rows c.in_ok-waiting.waiting.items) (work_at at) c.in_ok-waiting.ensures)

pub loop-index-preserved : goal.loop-index-preserved
loop-index-preserved c =
    let at = (goal.at.loop-index-preserved c).In-Some in
    let row = waiting_row (goal.at.loop-index-preserved c).After-deref-in-Some (order_at at).within in
    let waiting = rows c.in_ok-waiting.waiting.items in
    let missing = c.loop-index.missing.items in
    let fewer = rw (c.deref_mut.ensures.value, row) at c.in_ok-release.ensures.missing in
    let readier = rw c.deref_mut.ensures.value at c.in_ok-release.ensures.ready in
    let len = c.in_ok-release.ensures.length ∙ ap length c.deref_mut.ensures.value in
    let more = work_more (rows c.args.refs.now) c.loop-index.order.items missing c.release.new.missing
    c.pop.new.self.items c.release.new.ready.items c.in-Some.index waiting
    (work_at at) c.in_ok-waiting.ensures len fewer readier in
    rw (
      c.in_ok-push.ensures.items,
      with_items_is c.loop-index.missing c.release.new.missing (omega (arith, len, c.loop-index.missing.ok.0)),
    )
    more

pub first_on_cycle-requires-clause-waiting : goal.first_on_cycle-requires-clause-waiting
first_on_cycle-requires-clause-waiting c =
    rw c.deref-then-index-ne0.ensures.value
    (waiting_in_range (rows c.args.refs.now) (rows c.in_ok-waiting.waiting.items) c.in_ok-waiting.ensures)

pub first_on_cycle-requires-clause-cycle : goal.first_on_cycle-requires-clause-cycle
first_on_cycle-requires-clause-cycle c = λ none.
    let refs = c.args.refs.now in
    let index = c.loop-index-2.index in
    let empty = nil_from_length c.loop-index.ready.items (omega (arith, c.in_default.ensures.cases.0, c.loop-index.ready.ok.0)) in
    let work = subst (IsWork (rows refs) c.loop-index.order.items c.loop-index.missing.items) empty c.loop-index.invariant in
    let within : index < length (rows refs) = omega (arith, length-rows refs) in
    let at =
    get_or_default c.loop-index.missing.items index c.index-in-loop-index-2.result.now 1
    (omega (arith, within, c.loop-index.invariant.missing_length)) in
    let other = c.if-index-ne0.true in
    cycle_from_stuck (rows refs) c.requires.in_range c.loop-index.order.items c.loop-index.missing.items work index
    within (omega (arith, other, at, c.index-in-loop-index-2.ensures)) none

pub returns-clause-order : goal.returns-clause-order
returns-clause-order c =
    let refs = c.args.refs.now in
    let empty = nil_from_length c.loop-index.ready.items (omega (arith, c.in_default.ensures.cases.0, c.loop-index.ready.ok.0)) in
    whole_order (rows refs) c.loop-index.order.items c.loop-index.missing.items
    (subst (IsWork (rows refs) c.loop-index.order.items c.loop-index.missing.items) empty c.loop-index.invariant)
    (λ p h. c.loop-index-2.invariant p (omega (arith, h, length-rows refs)))

pub returns-clause-no_cycle : goal.returns-clause-no_cycle
returns-clause-no_cycle c =
    let refs = c.args.refs.now in
    let empty = nil_from_length c.loop-index.ready.items (omega (arith, c.in_default.ensures.cases.0, c.loop-index.ready.ok.0)) in
    no_cycle_from_order (rows refs) c.loop-index.order.items
    (whole_order (rows refs) c.loop-index.order.items c.loop-index.missing.items
    (subst (IsWork (rows refs) c.loop-index.order.items c.loop-index.missing.items) empty c.loop-index.invariant)
    (λ p h. c.loop-index-2.invariant p (omega (arith, h, length-rows refs))))

pub loop-index-2-preserved : goal.loop-index-2-preserved
loop-index-2-preserved c = grind (arith, common_steps)

pub loop-index-smaller : goal.loop-index-smaller
loop-index-smaller c = grind (arith, common_steps)

pub first_on_cycle-requires-clause-as_long : goal.first_on_cycle-requires-clause-as_long
first_on_cycle-requires-clause-as_long c = grind (arith, common_steps)
