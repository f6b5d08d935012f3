-- The longest chains in a graph, computed in a topological order of the graph without the references of indices on cycles.
use Rattle.std.proofs.Common.{◌≡◌, ℕ, zero, suc, ◌+◌, ◌<◌, Bool, true, false, cond, max, min, List, [], ◌∷◌, get_or, length, map, refl, sym, ap, ◌∙◌, subst, arith}
use Rattle.std.specs.Prelude.{◌||◌}
use Rattle.std.specs.List.{All, Contains, list_any}
use Rattle.std.proofs.lemmas.List.Elements.{All-from_get_or, All-get_or, All-nil}
use Rattle.std.proofs.lemmas.List.FromFn.{get_or-map-range_with_len, length-map-range_with_len}
use Rattle.bib_text.proofs.ListFacts.{contains_nothing}
use Rattle.bib_collections.specs.Graph.{AreOnCycles, Graph, HasNoCycle, IsInRange, Leads, Solves, more, one, refs_of}
use Rattle.bib_collections.specs.Search.{is_marked}
use Rattle.bib_collections.proofs.Walks.{below_from_edge, map_agree, one_solution}
use Rattle.bib_collections.proofs.LeadFacts.{first_edge}
use Rattle.edit_sort.specs.Ranks.{AreCyclesCut, has_walk, length_by, longest, longest_chains, one_above}
use Rattle.edit_sort.specs.Sorted.{greatest}
use Rattle.edit_sort.proofs.GreatestFacts.{greatest_after, greatest_either, greatest_full, greatest_none, greatest_same, one_after}
use Rattle.edit_sort.proofs.SetFacts.{any_both, any_contained}

-- ---- one more reference

-- if a chain begins at an index, so does one with one reference less
walk_less : (graph : Graph) (n index : ℕ) → has_walk graph (suc n) index ≡ true → has_walk graph n index ≡ true
walk_less graph zero index walk = refl
walk_less graph (suc n) index walk =
    any_both (has_walk graph (suc n)) (has_walk graph n) (refs_of graph index) (λ r. walk_less graph n r) walk

-- whether a chain of this many references begins at an index that refers to these indices
abbrev over : Graph → List ℕ → ℕ → Bool
over graph refs zero = true
over graph refs (suc n) = list_any (has_walk graph n) refs

walk_over : (graph : Graph) (index n : ℕ) → has_walk graph n index ≡ over graph (refs_of graph index) n
walk_over graph index zero = refl
walk_over graph index (suc n) = refl

over_more : (graph : Graph) (r : ℕ) (refs : List ℕ) (n : ℕ)
    → over graph (r ∷ refs) n ≡ (one_after (λ k. has_walk graph k r) n || over graph refs n)
over_more graph r refs zero = refl
over_more graph r refs (suc n) = refl

longest_over : (graph : Graph) (most : ℕ) (refs : List ℕ) → greatest (over graph refs) most ≡ one_above most (map (longest graph most) refs)
longest_over graph most [] = greatest_none (over graph []) most (λ n. refl)
longest_over graph most (r ∷ refs) =
    greatest_same (over graph (r ∷ refs)) (λ n. one_after (λ k. has_walk graph k r) n || over graph refs n) most (over_more graph r refs)
    ∙ greatest_either (one_after (λ k. has_walk graph k r)) (over graph refs) most
    ∙ ap (λ n. max n (greatest (over graph refs) most)) (greatest_after (λ k. has_walk graph k r) most refl (λ n. walk_less graph n r))
    ∙ ap (max (min (longest graph most r + 1) most)) (longest_over graph most refs)

-- the length at an index is one more than the greatest length at its references, but at most the bound
longest_by : (graph : Graph) (most index : ℕ) → longest graph most index ≡ one_above most (map (longest graph most) (refs_of graph index))
longest_by graph most index =
    greatest_same (λ n. has_walk graph n index) (over graph (refs_of graph index)) most (walk_over graph index)
    ∙ longest_over graph most (refs_of graph index)

-- ---- cycles

walk_to_cycle : (graph : Graph) (n a b : ℕ) → Leads graph a b → Leads graph b b → has_walk graph n a ≡ true
walk_to_cycle graph zero a b leads cycle = refl
walk_to_cycle graph (suc n) a b (one edge) cycle =
    any_contained (has_walk graph n) (refs_of graph a) b edge (walk_to_cycle graph n b b cycle cycle)
walk_to_cycle graph (suc n) a c (more {b = b} edge leads) cycle =
    any_contained (has_walk graph n) (refs_of graph a) b edge (walk_to_cycle graph n b c leads cycle)

longest_on_cycle : (graph : Graph) (most index : ℕ) → Leads graph index index → longest graph most index ≡ most
longest_on_cycle graph most index cycle =
    greatest_full (λ n. has_walk graph n index) most (walk_to_cycle graph most index index cycle cycle)

-- ---- without the references of indices on cycles

module _ (graph left : Graph) (marks : List Bool) (is_cut : AreCyclesCut graph marks left) (on : AreOnCycles graph marks) where
  edge_kept : (a r : ℕ) → Contains (refs_of left a) r → Contains (refs_of graph a) r
  edge_kept a r edge = by_mark (is_marked marks a) (subst (λ l. Contains l r) (is_cut.each a) edge)
    where
      by_mark : (marked : Bool) → Contains (cond marked [] (refs_of graph a)) r → Contains (refs_of graph a) r
      by_mark true edge' = absurd (contains_nothing edge')
      by_mark false edge' = edge'

  lead_kept : {a b : ℕ} → Leads left a b → Leads graph a b
  lead_kept {a} {b} (one edge) = one (edge_kept a b edge)
  lead_kept {a} (more {b = b} edge leads) = more (edge_kept a b edge) (lead_kept leads)

  row_at_mark : (index : ℕ) (marked : Bool) → is_marked marks index ≡ marked → refs_of left index ≡ cond marked [] (refs_of graph index)
  row_at_mark index marked is = is_cut.each index ∙ ap (λ m. cond m [] (refs_of graph index)) is

  -- the rest of the graph has no cycle
  pub no_cycle_left : HasNoCycle left
  no_cycle_left index within leads =
      let edge = first_edge leads in
      let marked : is_marked marks index ≡ true =
      (on.each index (omega (arith, within, is_cut.same_length))).1 (lead_kept leads) in
      contains_nothing (subst (λ l. Contains l edge.0) (row_at_mark index true marked) edge.1)

  -- the references of the rest are indices
  pub in_range_left : IsInRange graph → IsInRange left
  in_range_left in_range =
      All-from_get_or (λ row. All (λ r. r < length left) row) left []
      (λ k below. subst (λ n. All (λ r. r < n) (refs_of left k)) (sym is_cut.same_length)
      (by_mark k (omega (arith, below, is_cut.same_length)) (is_marked marks k) refl))
    where
      by_mark : (k : ℕ) → k < length graph → (marked : Bool) → is_marked marks k ≡ marked → All (λ r. r < length graph) (refs_of left k)
      by_mark k below true is =
          subst (λ l. All (λ r. r < length graph) l) (sym (row_at_mark k true is)) (All-nil (λ r. r < length graph))
      by_mark k below false is =
          subst (λ l. All (λ r. r < length graph) l) (sym (row_at_mark k false is))
          (All-get_or (λ row. All (λ r. r < length graph) row) graph k [] below in_range)

  module _ (in_range : IsInRange graph) where
    at_chains : (index : ℕ) → index < length graph → get_or (longest_chains graph) index 0 ≡ longest graph (length graph) index
    at_chains index within =
        get_or-map-range_with_len (longest graph (length graph)) 0 (length graph) index index 0 within (omega arith)

    -- the lengths at the references of an index are those in the list of longest chains
    at_references : (index : ℕ) → index < length left
        → map (longest graph (length graph)) (refs_of left index) ≡ map (λ r. get_or (longest_chains graph) r 0) (refs_of left index)
    at_references index within =
        map_agree (longest graph (length graph)) (λ r. get_or (longest_chains graph) r 0) (refs_of left index)
        (λ r edge.
        sym (at_chains r (omega (arith, below_from_edge left index r (in_range_left in_range) within edge, is_cut.same_length))))

    by_rule : (index : ℕ) → index < length left → (marked : Bool) → is_marked marks index ≡ marked
        → longest graph (length graph) index
        ≡ cond marked (length graph) (one_above (length graph) (map (λ r. get_or (longest_chains graph) r 0) (refs_of left index)))
    by_rule index within true is =
        longest_on_cycle graph (length graph) index ((on.each index (omega (arith, within, is_cut.same_length))).0 is)
    by_rule index within false is =
        longest_by graph (length graph) index
        ∙ ap (λ l. one_above (length graph) (map (longest graph (length graph)) l)) (sym (row_at_mark index false is))
        ∙ ap (one_above (length graph)) (at_references index within)

    chains_solve : (most : ℕ) → most ≡ length graph → Solves 0 (length_by most marks) left (longest_chains graph)
    chains_solve most same = record {
      same_length = length-map-range_with_len (longest graph (length graph)) 0 (length graph) ∙ sym is_cut.same_length;
      each = λ index within.
          at_chains index (omega (arith, within, is_cut.same_length)) ∙ by_rule index within (is_marked marks index) refl
          ∙ ap
          (λ n.
          cond (is_marked marks index) n
          (one_above n (map (λ r. get_or (longest_chains graph) r 0) (refs_of left index))))
          (sym same);
    }

    -- lengths that solve the equation are those of the longest chains
    pub lengths_are : (most : ℕ) (lengths : List ℕ) → most ≡ length graph → Solves 0 (length_by most marks) left lengths
        → lengths ≡ longest_chains graph
    lengths_are most lengths same solved =
        let one_only = one_solution left (in_range_left in_range) no_cycle_left 0 (length_by most marks) in
        one_only.2 lengths solved ∙ sym (one_only.2 (longest_chains graph) (chains_solve most same))
