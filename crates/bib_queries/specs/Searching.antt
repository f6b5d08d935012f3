-- Machinery: words of private contracts.
-- The search for needed nodes: the marks on the nodes found so far, and the names that are still to be looked up.
use Rattle.std.specs.Prelude.{◌≡◌, ◌↔◌, ◌⊎◌, ◌+◌, ℕ, Bool, true, not, List, [], length, count_by}
use Rattle.std.specs.List.{All, Contains}
use Rattle.std.specs.Option.{option_map_or}
use Rattle.std.specs.Borrow.{Bor}
use Rattle.std.specs.Global.{Vec}
use Rattle.std.specs.BTreeMap.{BTreeMap, get_by}
use Rattle.std.specs.Cmp.Lexicographic.{slice_cmp}
use Rattle.std.specs.Ordering.{nat_cmp}
use Rattle.bib_queries.specs.Needed.{Node, HasName, IsMarked, is_listed}

-- the indices that a map has for a name; none if it lacks the name
abbrev pub holders_in : BTreeMap (Bor (List ℕ)) (Vec ℕ) → List ℕ → List ℕ
holders_in m name = option_map_or (λ indices. indices.items) (get_by (λ k. slice_cmp nat_cmp name k.now) m) []

-- whether a map contains, for each name, the indices of the nodes that have it
abbrev pub AreHolders : List Node → BTreeMap (Bor (List ℕ)) (Vec ℕ) → Type 0
AreHolders nodes m = (name : List ℕ) (index : ℕ) → Contains (holders_in m name) index ↔ HasName nodes index name

-- whether the map contains the index for one of these names
abbrev pub AreHoldersIn : BTreeMap (Bor (List ℕ)) (Vec ℕ) → List (List ℕ) → ℕ → Type 0
AreHoldersIn m names index = (name : List ℕ) × (is_listed names name ≡ true) × Contains (holders_in m name) index

-- the number of indices without a mark
abbrev pub unmarked_count : List Bool → ℕ
unmarked_count marks = count_by not marks

-- whether marks and pending indices are extended: none is lost, only indices with `is_new` get a mark, and each of these is then pending.
-- Each index that becomes pending has a mark, and there are as many new pending indices as new marks
pub record Marks (is_new : ℕ → Type 0) (old : List Bool) (before : List ℕ) (new : List Bool) (after : List ℕ) : Type 0 where
  pub kept : (index : ℕ) → IsMarked old index → IsMarked new index
  pub only : (index : ℕ) → IsMarked new index → IsMarked old index ⊎ (is_new index × Contains after index)
  pub waiting : (index : ℕ) → Contains before index → Contains after index
  pub waits : (index : ℕ) → Contains after index → Contains before index ⊎ IsMarked new index
  pub as_many : unmarked_count new + length after ≡ unmarked_count old + length before

-- whether these names were looked up: all their nodes have marks, and a name is removed from the map only if all its nodes have marks
pub record LooksUp (old : BTreeMap (Bor (List ℕ)) (Vec ℕ)) (names : List (List ℕ)) (marks : List Bool)
    (new : BTreeMap (Bor (List ℕ)) (Vec ℕ)) : Type 0 where
  pub looked_up : (name : List ℕ) → is_listed names name ≡ true → All (IsMarked marks) (holders_in old name)
  pub left : (name : List ℕ)
      → (holders_in new name ≡ holders_in old name)
      ⊎ ((holders_in new name ≡ []) × All (IsMarked marks) (holders_in old name))
