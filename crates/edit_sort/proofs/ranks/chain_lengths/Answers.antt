use Rattle.std.proofs.Common.{◌≡◌, ℕ, Bool, List, Ok, Err, IfOk, Result, Vec, length, sym, ap, ◌∙◌, subst}
use Rattle.std.specs.declared.alloc.AllocError.{AllocError}
use Rattle.std.specs.declared.alloc.Global.{Global}
use Rattle.bib_collections.specs.Graph.{AreOnCycles, Graph, HasNoCycle, IsInRange, Solves}
use Rattle.bib_collections.specs.Rows.{rows}
use Rattle.bib_collections.proofs.Rows.{length-rows}
use Rattle.edit_sort.specs.Ranks.{AreCyclesCut, length_by, longest_chains}
use Rattle.edit_sort.proofs.GraphFacts.{in_range_left, lengths_are, no_cycle_left}
use Rattle.edit_sort.proofs.ranks.chain_lengths.Goals as goal

solved_is : (r : Result (Vec ℕ Global) AllocError) (graph left : Graph) (marks : List Bool) → AreCyclesCut graph marks left
    → AreOnCycles graph marks → IsInRange graph → (most : ℕ) → most ≡ length graph
    → IfOk r (λ lengths. Solves 0 (length_by most marks) left lengths.items)
    → IfOk r (λ lengths. lengths.items ≡ longest_chains graph)
solved_is (Err e) graph left marks is_cut on in_range most same solved = _
solved_is (Ok lengths) graph left marks is_cut on in_range most same solved =
    lengths_are graph left marks is_cut on in_range most lengths.items same solved

pub order_of-requires-clause-no_cycle : goal.order_of-requires-clause-no_cycle
order_of-requires-clause-no_cycle c =
    let graph = rows c.args.graph.now.items in
    let left = rows c.cut.new.graph.items in
    let on = subst (λ l. AreOnCycles (rows l) c.in_ok-marks.marks.items) c.deref.ensures.value c.in_ok-marks.ensures in
    let is_cut = subst (λ l. AreCyclesCut graph l left) c.deref-2.ensures.value c.cut.ensures in
    subst (λ l. HasNoCycle (rows l)) (sym c.deref-3.ensures.value) (no_cycle_left graph left c.in_ok-marks.marks.items is_cut on)

pub lengths_in-requires-clause-in_range : goal.lengths_in-requires-clause-in_range
lengths_in-requires-clause-in_range c =
    let graph = rows c.args.graph.now.items in
    let left = rows c.cut.new.graph.items in
    let on = subst (λ l. AreOnCycles (rows l) c.in_ok-marks.marks.items) c.deref.ensures.value c.in_ok-marks.ensures in
    let is_cut = subst (λ l. AreCyclesCut graph l left) c.deref-2.ensures.value c.cut.ensures in
    subst (λ l. IsInRange (rows l)) (sym c.deref-4.ensures.value)
    (in_range_left graph left c.in_ok-marks.marks.items is_cut on c.requires)

pub returns : goal.returns
returns c =
    let graph = rows c.args.graph.now.items in
    let left = rows c.cut.new.graph.items in
    let marks = c.in_ok-marks.marks.items in
    let on = subst (λ l. AreOnCycles (rows l) marks) c.deref.ensures.value c.in_ok-marks.ensures in
    let is_cut = subst (λ l. AreCyclesCut graph l left) c.deref-2.ensures.value c.cut.ensures in
    let most : length c.deref-4.result.now ≡ length graph =
    ap length c.deref-4.ensures.value ∙ sym (length-rows c.cut.new.graph.items) ∙ is_cut.same_length in
    solved_is c.lengths_in.result graph left marks is_cut on c.requires (length c.deref-4.result.now) most
    (subst
    (λ l.
    IfOk c.lengths_in.result (λ lengths. Solves 0 (length_by (length c.deref-4.result.now) l) left lengths.items))
    c.deref-5.ensures.value
    (subst
    (λ l.
    IfOk c.lengths_in.result
    (λ lengths. Solves 0 (length_by (length c.deref-4.result.now) c.deref-5.result.now) (rows l) lengths.items))
    c.deref-4.ensures.value c.lengths_in.ensures))
