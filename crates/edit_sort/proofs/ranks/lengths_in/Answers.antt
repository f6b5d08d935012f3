use Rattle.std.proofs.Common.{rules, ◌≡◌, ◌<◌, ℕ, get_or, length, map, replicate, sym, ap, ◌∙◌, subst, arith}
use Rattle.std.proofs.lemmas.List.{length-replicate}
use Rattle.std.specs.List.{All}
use Rattle.bib_collections.specs.Graph.{refs_of}
use Rattle.bib_collections.specs.Rows.{rows}
use Rattle.bib_collections.specs.Solving.{IsSolvedTo}
use Rattle.bib_collections.proofs.Rows.{length-rows, row_at, row_in}
use Rattle.bib_collections.proofs.Solving.{solved_all, solved_more, solved_none}
use Rattle.bib_collections.proofs.LeadFacts.{turn_within}
use Rattle.edit_sort.specs.Ranks.{length_by}
use Rattle.edit_sort.proofs.ranks.lengths_in.Goals as goal

pub order-init : goal.order-init
order-init c =
    let refs = c.args.graph.now in
    subst
    (λ l.
    IsSolvedTo 0 (length_by (length refs) c.args.marks.now) (rows refs) c.args.order.now (replicate (length refs) 0) 0 l)
    (sym (c.in_ok-lengths.ensures.items_if_clones_equal (λ y same. same)))
    (solved_none 0 (length_by (length refs) c.args.marks.now) (rows refs) c.args.order.now (replicate (length refs) 0))

pub offset_bounds-graph-index : goal.offset_bounds-graph-index
offset_bounds-graph-index c =
    let index : ℕ = get_or c.args.order.now c.order.index-index 0 in
    let within = turn_within (rows c.args.graph.now) c.args.order.now c.order.index-index c.requires.order c.order-test.true in
    let h : index < length c.args.graph.now = omega (arith, within, length-rows c.args.graph.now) in
    search rules

pub bounds-graph-index : goal.bounds-graph-index
bounds-graph-index c =
    let within = turn_within (rows c.args.graph.now) c.args.order.now c.order.index-index c.requires.order c.order-test.true in
    omega (arith, within, length-rows c.args.graph.now)

pub bounds-marks-index : goal.bounds-marks-index
bounds-marks-index c =
    let within = turn_within (rows c.args.graph.now) c.args.order.now c.order.index-index c.requires.order c.order-test.true in
    omega (arith, within, length-rows c.args.graph.now, c.requires.marks)

pub length_at-requires : goal.length_at-requires
length_at-requires c =
    let refs = c.args.graph.now in
    let index : ℕ = get_or c.args.order.now c.order.index-index 0 in
    let within = turn_within (rows refs) c.args.order.now c.order.index-index c.requires.order c.order-test.true in
    let row =
    row_in refs index c.index-graph-index.result c.requires.in_range (omega (arith, within, length-rows refs))
    c.index-graph-index.is in
    let long : length refs ≡ length c.deref.result.now =
    sym (length-replicate {A = ℕ} (length refs) 0) ∙ sym c.order.invariant.same_length ∙ ap length (sym c.deref.ensures.value) in
    subst (λ n. All (λ r. r < n) c.deref-in-order.result.now) long
    (subst (λ l. All (λ r. r < length refs) l) (sym c.deref-in-order.ensures.value) row)

pub index_mut-requires : goal.index_mut-requires
index_mut-requires c =
    let refs = c.args.graph.now in
    let within = turn_within (rows refs) c.args.order.now c.order.index-index c.requires.order c.order-test.true in
    omega (
      arith,
      within,
      length-rows refs,
      c.order.invariant.same_length,
      length-replicate {A = ℕ} (length refs) 0,
      c.order.lengths.ok.0,
    )

pub order-preserved : goal.order-preserved
order-preserved c =
    let refs = c.args.graph.now in
    let marks = c.args.marks.now in
    let most = length refs in
    let index : ℕ = get_or c.args.order.now c.order.index-index 0 in
    let values = c.order.lengths.items in
    let within = turn_within (rows refs) c.args.order.now c.order.index-index c.requires.order c.order-test.true in
    let row : c.deref-in-order.result.now ≡ refs_of (rows refs) index =
    c.deref-in-order.ensures.value
    ∙ sym (row_at refs index c.index-graph-index.result (omega (arith, within, length-rows refs)) c.index-graph-index.is) in
    let is : c.length_at.result ≡ length_by most marks index (map (λ r. get_or values r 0) (refs_of (rows refs) index)) =
    c.length_at.ensures
    ∙ ap (λ l. length_by most marks index (map (λ r. get_or l r 0) c.deref-in-order.result.now)) c.deref.ensures.value
    ∙ ap (λ l. length_by most marks index (map (λ r. get_or values r 0) l)) row in
    solved_more 0 (length_by most marks) (rows refs) c.args.order.now (replicate most 0) c.order.index-index values c.length_at.result
    c.requires.order c.order-test.true
    (omega (arith, within, length-rows refs, c.order.invariant.same_length, length-replicate {A = ℕ} most 0)) is c.order.invariant

pub returns : goal.returns
returns c =
    let refs = c.args.graph.now in
    let rule = length_by (length refs) c.args.marks.now in
    let all : c.order.index-index ≡ length c.args.order.now = omega arith in
    solved_all 0 rule (rows refs) c.args.order.now (replicate (length refs) 0) c.order.lengths.items c.requires.order
    (length-replicate {A = ℕ} (length refs) 0 ∙ sym (length-rows refs))
    (subst (λ i. IsSolvedTo 0 rule (rows refs) c.args.order.now (replicate (length refs) 0) i c.order.lengths.items) all c.order.invariant)
