-- Machinery: words of private contracts.
-- The state of a worklist.
use Rattle.std.specs.Prelude.{◌≡◌, ℕ, ◌+◌, ◌<◌, Bool, not, List, length, slice_index_or, count_by, ◌==◌, if◌then◌else◌}
use Rattle.bib_collections.specs.Graph.{Graph, refs_of, AreInOrder}

-- how often `index` occurs in `indices`
abbrev pub times : ℕ → List ℕ → ℕ
times index indices = count_by (λ p. p == index) indices

-- whether `index` occurs in `indices`
abbrev pub is_among : List ℕ → ℕ → Bool
is_among indices index = not (times index indices == 0)

-- the number of missing references at `index`; 1 past the end of `missing`
abbrev pub missing_at : List ℕ → ℕ → ℕ
missing_at missing index = slice_index_or missing index 1

-- in the row of `waiting` at an index, an entry occurs as often as it refers to the index
abbrev pub AreWaiting : Graph → Graph → Type 0
AreWaiting graph waiting =
    (length waiting ≡ length graph)
    × ((index entry : ℕ) → times entry (refs_of waiting index) ≡ times index (refs_of graph entry))

-- A reference is missing if its index isn't in `order` yet; `missing` has the counts. An index without missing references
-- is once in `order` or in `ready`. Any other index is in neither.
pub record IsWork (graph : Graph) (order : List ℕ) (missing : List ℕ) (ready : List ℕ) : Type 0 where
  pub missing_length : length missing ≡ length graph
  pub counts : (index : ℕ) → index < length graph → missing_at missing index ≡ count_by (λ r. not (is_among order r)) (refs_of graph index)
  pub once : (index : ℕ) → times index order + times index ready ≡ (if missing_at missing index == 0 then 1 else 0)
  pub in_order : AreInOrder graph order
