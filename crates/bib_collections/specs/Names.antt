-- Meaning: words of public contracts.
-- The names of a bibliography: each points to the index of an entry.
use Rattle.std.specs.Prelude.{◌≡◌, ℕ, ◌-◌, ◌<◌, ◌==◌, nat_lt, List, [], ◌∷◌, map, Option, Some, None, option_map, if◌then◌else◌, Bool, MatchBool}
use Rattle.std.specs.List.{filter_map}
use Rattle.std.specs.FinMap.{get, insert, entries, from_sorted}
use Rattle.bib_collections.specs.Sorted.{ByText}

-- `names` after these claims one after another: a name points to the index of its last claim
abbrev pub with_claims : ByText ℕ → List (List ℕ × ℕ) → ByText ℕ
with_claims names [] = names
with_claims names (claim ∷ claims) = with_claims (insert names claim.0 claim.1) claims

-- claims of each of `names` for `index`
abbrev pub claims_for : List (List ℕ) → ℕ → List (List ℕ × ℕ)
claims_for names index = map (λ name. (name, index)) names

-- the index after `taken` is removed: none if it is `taken`, and lower by 1 if it is greater
abbrev pub index_after_removal : ℕ → ℕ → Option ℕ
index_after_removal taken index = if index == taken then None else Some (if nat_lt taken index then index - 1 else index)

-- the pair of a name and an index after `taken` is removed, or none if its index is `taken`
abbrev pub moved_pair : ℕ → List ℕ × ℕ → Option (List ℕ × ℕ)
moved_pair taken pair = option_map (λ index. (pair.0, index)) (index_after_removal taken pair.1)

-- if `kept`, the pair `old` is `new` after `taken` is removed; otherwise the index of `old` is `taken`
abbrev pub IsMoved : ℕ → List ℕ × ℕ → Bool → List ℕ × ℕ → Type 0
IsMoved taken old kept new = MatchBool kept (moved_pair taken old ≡ Some new) (moved_pair taken old ≡ None)

-- `names` after `taken` is removed: without the names that point to it, and with greater indices lower by 1
abbrev pub without_index : ByText ℕ → ℕ → ByText ℕ
without_index names taken = from_sorted (filter_map (moved_pair taken) (entries names))

-- every name points to an index less than `count`
abbrev pub AreIndicesBelow : ℕ → ByText ℕ → Type 0
AreIndicesBelow count names = (name : List ℕ) (index : ℕ) → get names name ≡ Some index → index < count
