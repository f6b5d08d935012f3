-- Machinery: words of private contracts.
-- How far the equation is solved if the indices get their values in a topological order.
use Rattle.std.specs.Prelude.{◌≡◌, ℕ, List, length, map, take, slice_index_or}
use Rattle.std.specs.List.{Contains}
use Rattle.bib_collections.specs.Graph.{Graph, refs_of}

-- the values of the first `i` indices of `order` solve the equation, and all others are those of `start`
pub record IsSolvedTo {V : Type 0} (none : V) (rule : ℕ → List V → V) (graph : Graph) (order : List ℕ) (start : List V)
    (i : ℕ) (values : List V) : Type 0 where
  pub same_length : length values ≡ length start
  pub solved : (index : ℕ) → Contains (take i order) index
      → slice_index_or values index none ≡ rule index (map (λ r. slice_index_or values r none) (refs_of graph index))
  pub kept : (index : ℕ) → (Contains (take i order) index → ⊥) → slice_index_or values index none ≡ slice_index_or start index none
