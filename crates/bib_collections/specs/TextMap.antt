-- Meaning: words of public contracts.
-- Comparing and cloning maps by text.
use Rattle.std.specs.Prelude.{◌≡◌, ℕ, Bool, ◌&&◌, List, nat_eq}
use Rattle.std.specs.List.{AllZip}
use Rattle.std.specs.Cmp.{IsEquivalence, IsPartialEquivalence, and_per, and_equiv, on_per, on_equiv, partial_equiv_from_equiv}
use Rattle.std.specs.Cmp.Lexicographic.{pointwise, lists_per, lists_equiv, nat_list_eq_equiv}
use Rattle.std.specs.FinMap.{entries}
use Rattle.bib_collections.specs.Sorted.{ByText}

-- whether two pairs have the same name and, by the test `same`, the same value
abbrev pub same_pair : {V : Type 0} → (V → V → Bool) → List ℕ × V → List ℕ × V → Bool
same_pair same p q = pointwise nat_eq p.0 q.0 && same p.1 q.1

-- whether two maps have the same names and, by the test `same`, the same values
abbrev pub same_pairs : {V : Type 0} → (V → V → Bool) → ByText V → ByText V → Bool
same_pairs same m n = pointwise (same_pair same) (entries m) (entries n)

-- a lemma: `same_pair` is a partial equivalence if `same` is one
pub same_pair_per : {V : Type 0} {same : V → V → Bool} → IsPartialEquivalence same → IsPartialEquivalence (same_pair same)
same_pair_per laws = and_per (on_per (λ p. p.0) (partial_equiv_from_equiv nat_list_eq_equiv)) (on_per (λ p. p.1) laws)

-- a lemma: `same_pairs` is a partial equivalence if `same` is one
pub same_pairs_per : {V : Type 0} {same : V → V → Bool} → IsPartialEquivalence same → IsPartialEquivalence (same_pairs same)
same_pairs_per laws = on_per entries (lists_per (same_pair_per laws))

-- a lemma: `same_pairs` is an equivalence if `same` is one
pub same_pairs_equiv : {V : Type 0} {same : V → V → Bool} → IsEquivalence same → IsEquivalence (same_pairs same)
same_pairs_equiv laws = on_equiv entries (lists_equiv (and_equiv (on_equiv (λ p. p.0) nat_list_eq_equiv) (on_equiv (λ p. p.1) laws)))

-- two maps have the same names, and each value of the second is a clone of the value of the first
abbrev pub AreClones : {V : Type 0} → (V → V → Type 0) → ByText V → ByText V → Type 0
AreClones IsClone m n = AllZip (λ p q. (q.0 ≡ p.0) × IsClone p.1 q.1) (entries m) (entries n)
