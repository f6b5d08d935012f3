-- Machinery: words of private contracts.
-- Marks on indices, and the results of searches for cycles.
use Rattle.std.specs.Prelude.{◌≡◌, ℕ, ◌⊎◌, ◌<◌, Bool, true, false, List, length, slice_index_or, Option, Some, None}
use Rattle.std.specs.List.{All, Contains}
use Rattle.bib_collections.specs.Graph.{Graph, IsInRange, refs_of, Leads}

-- whether `index` has a mark; false past the end of `marks`
abbrev pub is_marked : List Bool → ℕ → Bool
is_marked marks index = slice_index_or marks index false

-- each marked index refers only to marked indices
abbrev pub IsClosed : Graph → List Bool → Type 0
IsClosed graph marks = (index : ℕ) → is_marked marks index ≡ true → All (λ r. is_marked marks r ≡ true) (refs_of graph index)

-- The new marks are the old ones and marks on all indices that `start` leads to. Each marked index refers only to marked
-- ones.
pub record IsSpread (graph : Graph) (start : ℕ) (old new : List Bool) : Type 0 where
  pub same_length : length new ≡ length graph
  pub closed : IsClosed graph new
  pub kept : (index : ℕ) → is_marked old index ≡ true → is_marked new index ≡ true
  pub found : All (λ r. is_marked new r ≡ true) (refs_of graph start)
  pub only : (index : ℕ) → is_marked new index ≡ true → (is_marked old index ≡ true) ⊎ Leads graph start index

-- no index without a mark in `suspects` leads to itself
abbrev pub AreSuspects : Graph → List Bool → Type 0
AreSuspects graph suspects = (index : ℕ) → index < length graph → is_marked suspects index ≡ false → Leads graph index index → ⊥

-- `start` leads to each of these indices, and each is the index of an entry
abbrev pub AreReached : Graph → ℕ → List ℕ → Type 0
AreReached graph start = All (λ r. (r < length graph) × Leads graph start r)

-- each marked index leads to itself
abbrev pub AllLeadToThemselves : Graph → List Bool → Type 0
AllLeadToThemselves graph marks = (index : ℕ) → is_marked marks index ≡ true → Leads graph index index

-- the root of `index`, or `None` if it has none
abbrev pub root_at : List (Option ℕ) → ℕ → Option ℕ
root_at roots index = slice_index_or roots index None

-- the root of an index, if it has one, leads to the index
abbrev pub AreRoots : Graph → List (Option ℕ) → Type 0
AreRoots graph roots = (index root : ℕ) → root_at roots index ≡ Some root → Leads graph root index

-- each reference of `inside` is a reversed reference of `graph` between indices with the same root or without a root
pub record AreBackInside (graph : Graph) (roots : List (Option ℕ)) (inside : Graph) : Type 0 where
  pub same_length : length inside ≡ length graph
  pub in_range : IsInRange inside
  pub turned : (index entry : ℕ) → Contains (refs_of inside index) entry
      → Contains (refs_of graph entry) index × (root_at roots index ≡ root_at roots entry)
