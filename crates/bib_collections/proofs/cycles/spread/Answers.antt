use Rattle.std.proofs.lemmas.Grind.{common_steps}
use Rattle.std.proofs.Common.{◌≡◌, ◌<◌, ℕ, true, length, get_or, sym, ap, ◌∙◌, subst, arith, rules, Some}
use Rattle.std.specs.List.{All}
use Rattle.std.proofs.lemmas.List.Elements.{All-pop, All-push, All-from_get_or}
use Rattle.bib_collections.specs.Graph.{Leads}
use Rattle.bib_collections.specs.Rows.{rows}
use Rattle.bib_collections.specs.Search.{is_marked}
use Rattle.bib_collections.proofs.Rows.{length-rows, row_at, edge_at}
use Rattle.bib_collections.proofs.Search.{IsAhead, ahead_found, ahead_further, found_below, search_popped, search_next, looking_more, looking_on}
use Rattle.bib_collections.proofs.Walks.{below_from_edge}
use Rattle.bib_collections.proofs.cycles.spread.Goals as goal
use Rattle.bib_collections.proofs.cycles.spread.Goals.{In-Some, then-not-marks-r+in_ok-push+in_ok-push-2, else-not-marks-r}

ahead_pop : (c : In-Some)
    → All (IsAhead (rows c.args.refs.now) c.args.start c.args.marks.now c.loop-index.marks) c.pop.new.self.items
    × IsAhead (rows c.args.refs.now) c.args.start c.args.marks.now c.loop-index.marks c.in-Some.index
ahead_pop c =
    All-pop (IsAhead (rows c.args.refs.now) c.args.start c.args.marks.now c.loop-index.marks) c.loop-index.pending.items
    c.pop.new.self.items (Some c.in-Some.index) c.in-Some.ensures.items c.loop-index.invariant.found

index_below : (c : In-Some) → c.in-Some.index < length c.args.refs.now
index_below c =
    let found = ahead_found (rows c.args.refs.now) c.args.start c.args.marks.now c.loop-index.marks c.in-Some.index (ahead_pop c).1 in
    let h =
    found_below c.loop-index.marks (length (rows c.args.refs.now)) c.args.start c.in-Some.index
    c.loop-index.invariant.search.same_length (omega (arith, length-rows c.args.refs.now)) found in
    omega (arith, h, length-rows c.args.refs.now)

pub offset_bounds-refs-index : goal.offset_bounds-refs-index
offset_bounds-refs-index c =
    let h : c.in-Some.index < length c.args.refs.now = index_below (goal.at.offset_bounds-refs-index c).In-Some in
    search rules

pub bounds-refs-index : goal.bounds-refs-index
bounds-refs-index c = index_below (goal.at.bounds-refs-index c).In-Some

pub loop-r-init : goal.loop-r-init
loop-r-init c =
    let at = (goal.at.loop-r-init c).In-Some in
    record {
      looking = record {
        search =
            search_popped (rows c.args.refs.now) c.args.start c.args.marks.now c.loop-index.marks
            c.loop-index.pending.items c.pop.new.self.items c.in-Some.index c.in-Some.ensures.items
            c.loop-index.invariant.search;
        found = (ahead_pop at).0;
        here = (ahead_pop at).1;
        looked = λ k h. absurd (omega arith);
        less = omega arith;
      };
      reached = c.loop-index.invariant.reached;
    }

pub loop-index-preserved : goal.loop-index-preserved
loop-index-preserved c =
    let refs = c.args.refs.now in
    let IsSeen : ℕ → Type 0 = λ r. is_marked c.loop-r.marks r ≡ true in
    let below = index_below (goal.at.loop-index-preserved c).In-Some in
    record {
      search = search_next (rows refs) c.args.start c.args.marks.now c.loop-r.marks c.loop-r.pending.items c.in-Some.index
          (subst (λ l. All IsSeen l)
          (c.deref-r-items.ensures.value
          ∙ sym (row_at refs c.in-Some.index c.index-refs-index.result below c.index-refs-index.is))
          (All-from_get_or IsSeen c.deref-r-items.result.now 0 (λ i h. c.loop-r.invariant.looking.looked i (omega arith))))
          c.loop-r.invariant.looking.search;
      found = c.loop-r.invariant.looking.found;
      reached = c.loop-r.invariant.reached;
    }

pub bounds-marks-r : goal.bounds-marks-r
bounds-marks-r c =
    let refs = c.args.refs.now in
    let below = index_below (goal.at.bounds-marks-r c).In-Some in
    let edge =
    edge_at refs c.in-Some.index c.index-refs-index.result c.deref-r-items.result.now c.loop-r.r-index below
    c.index-refs-index.is c.deref-r-items.ensures.value (omega arith) in
    omega (
      arith,
      below_from_edge (rows refs) c.in-Some.index _ c.requires.in_range (omega (arith, below, length-rows refs))
          edge,
      c.loop-r.invariant.looking.search.same_length,
    )

pub bounds-marks-r-then-not-marks-r : goal.bounds-marks-r-then-not-marks-r
bounds-marks-r-then-not-marks-r c =
    let refs = c.args.refs.now in
    let below = index_below (goal.at.bounds-marks-r-then-not-marks-r c).In-Some in
    let edge =
    edge_at refs c.in-Some.index c.index-refs-index.result c.deref-r-items.result.now c.loop-r.r-index below
    c.index-refs-index.is c.deref-r-items.ensures.value (omega arith) in
    omega (
      arith,
      below_from_edge (rows refs) c.in-Some.index _ c.requires.in_range (omega (arith, below, length-rows refs))
          edge,
      c.loop-r.invariant.looking.search.same_length,
    )

pub loop-r-preserved : goal.loop-r-preserved
loop-r-preserved c =
    let refs = c.args.refs.now in
    let r : ℕ = get_or c.deref-r-items.result.now c.loop-r.r-index 0 in
    let below = index_below (goal.at.loop-r-preserved c).In-Some in
    let edge =
    edge_at refs c.in-Some.index c.index-refs-index.result c.deref-r-items.result.now c.loop-r.r-index below
    c.index-refs-index.is c.deref-r-items.ensures.value (omega arith) in
    let within = below_from_edge (rows refs) c.in-Some.index r c.requires.in_range (omega (arith, below, length-rows refs)) edge in
    let looking = c.loop-r.invariant.looking in
    elim c.if-not-marks-r.branch [
      | then-not-marks-r+in_ok-push+in_ok-push-2 w ↦ record {
        looking =
            looking_more (rows refs) c.args.start c.args.marks.now c.in-Some.index c.deref-r-items.result.now
            c.loop-r.r-index _ c.loop-r.marks c.if-not-marks-r.marks c.loop-r.pending.items
            c.if-not-marks-r.pending.items within edge w.if-not-marks-r.true w.marks-is
            (ap (λ v. v.items) w.pending-is ∙ w.in_ok-push.ensures.items) looking;
        reached = rw (ap (λ v. v.items) w.reached-is ∙ w.in_ok-push-2.ensures.items)
            (All-push (λ x. (x < length (rows refs)) × Leads (rows refs) c.args.start x) c.loop-r.reached.items r c.loop-r.invariant.reached
            (within, ahead_further (rows refs) c.args.start c.args.marks.now c.loop-r.marks c.in-Some.index r looking.here edge));
      }
      | else-not-marks-r w ↦ record {
        looking =
            looking_on (rows refs) c.args.start c.args.marks.now c.in-Some.index c.deref-r-items.result.now
            c.loop-r.r-index _ c.loop-r.marks c.if-not-marks-r.marks c.loop-r.pending.items
            c.if-not-marks-r.pending.items w.if-not-marks-r.false w.marks-is (ap (λ v. v.items) w.pending-is)
            looking;
        reached = rw (ap (λ v. v.items) w.reached-is) c.loop-r.invariant.reached;
      }
    ]

pub loop-index-init : goal.loop-index-init
loop-index-init c = grind (arith, common_steps)
