-- Machinery: words of private contracts.
-- The indices that are reached from others in a graph, and the graph with its references reversed.
use Rattle.std.specs.Prelude.{◌≡◌, ◌↔◌, ℕ, List, length}
use Rattle.std.specs.List.{Contains}
use Rattle.bib_collections.specs.Graph.{Graph, refs_of}

-- whether `reversed` has for each index those that refer to it in `graph`
pub record IsReversed (graph reversed : Graph) : Type 0 where
  pub same_length : length reversed ≡ length graph
  pub each : (parent child : ℕ) → Contains (refs_of reversed parent) child ↔ Contains (refs_of graph child) parent

-- whether an index is reached: it is one of `starts`, or an index that is reached refers to it
pub data IsReached (graph : Graph) (starts : List ℕ) : ℕ → Type 0 where
  start : {index : ℕ} → Contains starts index → IsReached graph starts index
  next : {from index : ℕ} → IsReached graph starts from → Contains (refs_of graph from) index → IsReached graph starts index
