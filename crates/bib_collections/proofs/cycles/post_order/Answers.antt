use Rattle.std.proofs.Common.{◌≡◌, ◌+◌, ◌*◌, ◌<◌, ℕ, Bool, true, false, List, ◌++◌, ◌∷◌, [], length, get_or, set, sym, ap, ◌∙◌, subst, arith, Some, length-set}
use Rattle.std.specs.List.{All}
use Rattle.std.proofs.lemmas.List.{get_or_default, length_push}
use Rattle.std.proofs.lemmas.List.Elements.{All-pop, All-get_or, All-push}
use Rattle.bib_collections.specs.Search.{is_marked}
use Rattle.bib_collections.proofs.Rows.{row_in}
use Rattle.bib_collections.proofs.Search.{unmarked, unmarked_less}
use Rattle.bib_collections.proofs.cycles.post_order.Goals as goal
use Rattle.bib_collections.proofs.cycles.post_order.Goals.{In-Some}

abbrev Below : {A : Type 0} → List A → ℕ → Type 0
Below refs index = index < length refs

popped : (c : In-Some) → All (Below c.args.refs.now) c.pop.new.self.items × (c.in-Some.index < length c.args.refs.now)
popped c =
    All-pop (Below c.args.refs.now) c.loop-index.path.items c.pop.new.self.items (Some c.in-Some.index)
    c.in-Some.ensures.items c.loop-index.invariant.path

next_below : {A : Type 0} (refs : List A) (items same : List ℕ) (i next : ℕ) → All (Below refs) items → same ≡ items
    → i < length same → next ≡ get_or items i next → next < length refs
next_below refs items same i next all e below at =
    subst (λ n. n < length refs) (sym at) (All-get_or (Below refs) items i next (subst (λ l. i < length l) e below) all)

next_clear : (items same : List ℕ) (marks old : List Bool) (i next : ℕ) → same ≡ items → old ≡ marks → i < length same
    → next ≡ get_or items i next → is_marked old (get_or same i 0) ≡ false → is_marked marks next ≡ false
next_clear items same marks old i next e f below at clear =
    let here : get_or same i 0 ≡ next = get_or_default same i 0 next below ∙ ap (λ l. get_or l i next) e ∙ sym at in
    subst (λ n. is_marked marks n ≡ false) here (subst (λ l. is_marked l (get_or same i 0) ≡ false) f clear)

pub next_unmarked-requires : goal.next_unmarked-requires
next_unmarked-requires c =
    let refs = c.args.refs.now in
    let row =
    row_in refs c.in-Some.index c.index-refs-index.result c.requires.in_range
    (popped (goal.at.next_unmarked-requires c).In-Some).1 c.index-refs-index.is in
    let marks : length refs ≡ length c.deref-in-Some.result.now =
    sym (ap length c.deref-in-Some.ensures.value ∙ c.loop-index.invariant.marks) in
    record {
      in_range =
          subst (λ n. All (λ r. r < n) c.deref.result.now) marks
          (subst (λ l. All (Below refs) l) (sym c.deref.ensures.value) row);
    }

pub index_mut-requires-in-Some-next_unmarked : goal.index_mut-requires-in-Some-next_unmarked
index_mut-requires-in-Some-next_unmarked c =
    let refs = c.args.refs.now in
    let row =
    row_in refs c.in-Some.index c.index-refs-index.result c.requires.in_range
    (popped (goal.at.index_mut-requires-in-Some-next_unmarked c).In-Some).1 c.index-refs-index.is in
    let below =
    next_below refs c.index-refs-index.result.items c.deref.result.now c.in-Some-next_unmarked.i
    c.index-next.result.now row c.deref.ensures.value c.in-Some-next_unmarked.ensures.0 c.index-next.ensures in
    omega (arith, below, c.loop-index.invariant.marks, c.loop-index.marks.ok.0)

pub index_mut-requires-in-Some-next_unmarked-2 : goal.index_mut-requires-in-Some-next_unmarked-2
index_mut-requires-in-Some-next_unmarked-2 c =
    omega (
      arith,
      (popped (goal.at.index_mut-requires-in-Some-next_unmarked-2 c).In-Some).1,
      c.loop-index.invariant.looked,
      c.loop-index.looked.ok.0,
    )

pub loop-index-smaller-in-Continue-branch-5 : goal.loop-index-smaller-in-Continue-branch-5
loop-index-smaller-in-Continue-branch-5 c =
    let refs = c.args.refs.now in
    let marks = c.loop-index.marks.items in
    let next = c.index-next.result.now in
    let path = c.pop.new.self.items in
    let index = c.in-Some.index in
    let row =
    row_in refs index c.index-refs-index.result c.requires.in_range
    (popped (goal.at.loop-index-smaller-in-Continue-branch-5 c).In-Some).1 c.index-refs-index.is in
    let below =
    next_below refs c.index-refs-index.result.items c.deref.result.now c.in-Some-next_unmarked.i next row
    c.deref.ensures.value c.in-Some-next_unmarked.ensures.0 c.index-next.ensures in
    let clear =
    next_clear c.index-refs-index.result.items c.deref.result.now marks c.deref-in-Some.result.now
    c.in-Some-next_unmarked.i next c.deref.ensures.value c.deref-in-Some.ensures.value
    c.in-Some-next_unmarked.ensures.0 c.index-next.ensures c.in-Some-next_unmarked.ensures.1 in
    let less = unmarked_less marks next (omega (arith, below, c.loop-index.invariant.marks)) clear in
    let longer = ap length c.in_ok-push-in-Some-next_unmarked-2.ensures.items ∙ length_push c.push.new.self.items next in
    let long = ap length c.in_ok-push-in-Some-next_unmarked.ensures.items ∙ length_push path index in
    let old = ap length c.in-Some.ensures.items ∙ length_push path index in
    let h : 2 * unmarked (set marks next true) + length c.push-in-Some-next_unmarked.new.self.items
    < 2 * unmarked marks + length c.loop-index.path.items =
    omega (arith, less, longer, long, old) in
    h

pub loop-index-preserved-in-Continue-branch-5 : goal.loop-index-preserved-in-Continue-branch-5
loop-index-preserved-in-Continue-branch-5 c =
    let refs = c.args.refs.now in
    let next = c.index-next.result.now in
    let index = c.in-Some.index in
    let pop = popped (goal.at.loop-index-preserved-in-Continue-branch-5 c).In-Some in
    let row = row_in refs index c.index-refs-index.result c.requires.in_range pop.1 c.index-refs-index.is in
    let below =
    next_below refs c.index-refs-index.result.items c.deref.result.now c.in-Some-next_unmarked.i next row
    c.deref.ensures.value c.in-Some-next_unmarked.ensures.0 c.index-next.ensures in
    record {
      marks = length-set c.loop-index.marks.items next true ∙ c.loop-index.invariant.marks;
      looked = length-set c.loop-index.looked.items index (c.in-Some-next_unmarked.i + 1) ∙ c.loop-index.invariant.looked;
      order = c.loop-index.invariant.order;
      path = rw (c.in_ok-push-in-Some-next_unmarked-2.ensures.items, c.in_ok-push-in-Some-next_unmarked.ensures.items)
          (All-push (Below refs) (c.pop.new.self.items ++ index ∷ []) next
          (All-push (Below refs) c.pop.new.self.items index pop.0 pop.1) below);
    }

pub loop-index-preserved : goal.loop-index-preserved
loop-index-preserved c =
    let refs = c.args.refs.now in
    let pop = popped (goal.at.loop-index-preserved c).In-Some in
    record {
      marks = c.loop-index.invariant.marks;
      looked = c.loop-index.invariant.looked;
      order =
          rw c.in_ok-push-in-None.ensures.items
          (All-push (Below refs) c.loop-index.order.items c.in-Some.index c.loop-index.invariant.order pop.1);
      path = pop.0;
    }
