-- Meaning: words of public contracts.
-- Pairs of a name and a value, sorted by the bytes of the names.
use Rattle.std.specs.Prelude.{◌≡◌, ℕ, ◌<◌, ◌≤◌, List, length, IsTrue}
use Rattle.std.specs.List.{AllWithin, HoldsAt}
use Rattle.std.specs.declared.cmp.Ordering.{Ordering}
use Rattle.std.specs.declared.cmp.Ordering.TheVariants.{Less, Equal, Greater}
use Rattle.std.specs.Ordering.{nat_cmp}
use Rattle.std.specs.Cmp.Lexicographic.{slice_cmp}
use Rattle.std.specs.FinMap.{FinMap, from_sorted, is_sorted}

-- compares two texts by their bytes, lexicographically
abbrev pub by_bytes : List ℕ → List ℕ → Ordering
by_bytes = slice_cmp nat_cmp

-- a finite map with texts as keys, sorted by their bytes
abbrev pub ByText : Type 0 → Type 0
ByText V = FinMap by_bytes V

-- the names strictly ascend by their bytes, so each occurs at most once
abbrev pub IsSorted : {V : Type 0} → List (List ℕ × V) → Type 0
IsSorted pairs = IsTrue (is_sorted by_bytes pairs)

-- the finite map of sorted pairs
abbrev pub map_of : {V : Type 0} → List (List ℕ × V) → ByText V
map_of pairs = from_sorted pairs

-- the pair at `index` has `name`
pub record IsIndexOf {V : Type 0} (pairs : List (List ℕ × V)) (name : List ℕ) (index : ℕ) : Type 0 where
  pub in_range : index < length pairs
  pub has_name : HoldsAt (λ pair. by_bytes pair.0 name ≡ Equal) pairs index

-- a pair of `name` belongs at `index`: the names before it are smaller, and those from it on are greater
pub record IsGapFor {V : Type 0} (pairs : List (List ℕ × V)) (name : List ℕ) (index : ℕ) : Type 0 where
  pub in_range : index ≤ length pairs
  pub smaller : AllWithin (λ pair. by_bytes pair.0 name ≡ Less) pairs 0 index
  pub greater : AllWithin (λ pair. by_bytes pair.0 name ≡ Greater) pairs index (length pairs)
