use Rattle.std.proofs.Common.{◌≡◌, ◌<◌, ◌++◌, [], ℕ, true, false, length, get_or, set, replicate, Some, sym, ap, ◌∙◌, subst, rules, arith}
use Rattle.std.specs.List.{All}
use Rattle.std.proofs.lemmas.List.{get_or_default, length-append, length_push, nil_from_length}
use Rattle.std.proofs.lemmas.List.Elements.{All-pop}
use Rattle.bib_collections.specs.Graph.{refs_of}
use Rattle.bib_collections.specs.Rows.{rows}
use Rattle.bib_collections.proofs.Rows.{length-rows, row_at}
use Rattle.bib_queries.specs.Needed.{AreMarks}
use Rattle.bib_findings.specs.Reaching.{IsReached}
use Rattle.bib_findings.proofs.ReachFacts.{IsReachedWithin, IsSearch, search_all, search_first, search_more, search_on, steps_less}
use Rattle.bib_findings.proofs.lacking.mark_reached.Goals as goal
use Rattle.bib_findings.proofs.lacking.mark_reached.Goals.{In-Some, In_ok-extend_from_slice}

after_pop : (c : In-Some) → All (IsReachedWithin (rows c.args.refs.now) c.args.starts.items) c.pop.new.self.items
    × IsReachedWithin (rows c.args.refs.now) c.args.starts.items c.in-Some.index
after_pop c =
    All-pop (IsReachedWithin (rows c.args.refs.now) c.args.starts.items) c.pending.pending.items c.pop.new.self.items
    (Some c.in-Some.index) c.in-Some.ensures.items c.pending.invariant.waits

index_below : (c : In-Some) → c.in-Some.index < length c.args.refs.now
index_below c = omega (arith, (after_pop c).1.0, length-rows c.args.refs.now)

index_within : (c : In-Some) → c.in-Some.index < length c.pending.marks.items
index_within c = omega (arith, (after_pop c).1.0, c.pending.invariant.same_length)

row_there : (c : In_ok-extend_from_slice) → c.deref.result.now ≡ refs_of (rows c.args.refs.now) c.in-Some.index
row_there c =
    c.deref.ensures.value
    ∙ sym (row_at c.args.refs.now c.in-Some.index c.index-refs-index.result (index_below ((goal.at.pending-preserved c).In-Some))
    c.index-refs-index.is)

pub pending-init : goal.pending-init
pending-init c =
    let refs = c.args.refs.now in
    let starts = c.args.starts.items in
    let made : c.in_ok-marks.marks.items ≡ replicate (length refs) false = search rules in
    subst (λ l. IsSearch (rows refs) starts l starts) (ap (λ n. replicate n false) (length-rows refs) ∙ sym made)
    (search_first (rows refs) starts (subst (λ n. All (λ i. i < n) starts) (sym (length-rows refs)) c.requires.starts))

pub pending-preserved-then-index : goal.pending-preserved-then-index
pending-preserved-then-index c =
    let at = (goal.at.pending-preserved-then-index c).In-Some in
    let marks = c.pending.marks.items in
    let index : ℕ = c.in-Some.index in
    let marked : get_or marks index false ≡ true =
    get_or_default marks index false c.index.result.now (index_within at) ∙ sym c.index.ensures ∙ c.if-index.true in
    search_on (rows c.args.refs.now) c.args.starts.items marks c.pending.pending.items c.pop.new.self.items index
    c.in-Some.ensures.items (after_pop at).0 marked c.pending.invariant

pub offset_bounds-refs-index : goal.offset_bounds-refs-index
offset_bounds-refs-index c =
    let below : c.in-Some.index < length c.args.refs.now = index_below ((goal.at.offset_bounds-refs-index c).In-Some) in
    search rules

pub bounds-refs-index : goal.bounds-refs-index
bounds-refs-index c = index_below ((goal.at.bounds-refs-index c).In-Some)

pub pending-smaller : goal.pending-smaller
pending-smaller c =
    let at = (goal.at.pending-smaller c).In-Some in
    let marks = c.pending.marks.items in
    let index : ℕ = c.in-Some.index in
    let left = c.pop.new.self.items in
    let unmarked : get_or marks index false ≡ false =
    get_or_default marks index false c.index.result.now (index_within at) ∙ sym c.index.ensures ∙ c.if-index.false in
    omega (
      arith,
      steps_less marks (rows c.args.refs.now) index c.pending.invariant.same_length (index_within at) unmarked,
      ap length c.in-Some.ensures.items,
      length_push left index,
      ap length c.in_ok-extend_from_slice.ensures.items,
      length-append left c.deref.result.now,
      ap length (row_there c),
    )

pub pending-preserved : goal.pending-preserved
pending-preserved c =
    let at = (goal.at.pending-preserved c).In-Some in
    let graph = rows c.args.refs.now in
    let starts = c.args.starts.items in
    let marks = c.pending.marks.items in
    let index : ℕ = c.in-Some.index in
    let left = c.pop.new.self.items in
    subst (λ l. IsSearch graph starts (set marks index true) l)
    (ap (λ l. left ++ l) (sym (row_there c)) ∙ sym c.in_ok-extend_from_slice.ensures.items)
    (search_more graph starts marks c.pending.pending.items left index c.in-Some.ensures.items c.requires.in_range (after_pop at).0
    (after_pop at).1 c.pending.invariant)

pub returns : goal.returns
returns c =
    let graph = rows c.args.refs.now in
    let starts = c.args.starts.items in
    let marks = c.pending.marks.items in
    let none : c.pending.pending.items ≡ [] =
    nil_from_length c.pending.pending.items (omega (arith, c.in_default.ensures.cases.0, c.pending.pending.ok.0)) in
    subst (λ n. AreMarks (IsReached graph starts) n marks) (length-rows c.args.refs.now)
    (search_all graph starts marks (subst (λ l. IsSearch graph starts marks l) none c.pending.invariant))
