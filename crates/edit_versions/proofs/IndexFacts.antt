-- Each name leads to the index of its unit.
use Rattle.std.proofs.Common.{◌≡◌, ℕ, zero, suc, ◌+◌, ◌<◌, ◌^◌, cond, List, [], ◌∷◌, Some, length, map, refl, sym, ap, ◌∙◌, subst, arith, inl, inr, None, Bool, true, false}
use Rattle.std.specs.Prelude.{◌⊎◌, bytes_eq, slice_get}
use Rattle.std.specs.FinMap.{empty, get, get-empty, get-insert, insert}
use Rattle.std.specs.List.{AllByRecursion, enumerate_from}
use Rattle.std.proofs.lemmas.Bool.{false_from_ne_true}
use Rattle.std.proofs.lemmas.Cmp.{nat_list_cmp_total}
use Rattle.std.proofs.lemmas.Map.Text.{is_eq-slice_cmp}
use Rattle.std.proofs.lemmas.Slice.Eq.{bytes_eq-Decides}
use Rattle.bib_collections.specs.Names.{with_claims}
use Rattle.bib_collections.specs.Sorted.{ByText, by_bytes}
use Rattle.bib_text.proofs.PlaceFacts.{test_clash}
use Rattle.edit_versions.specs.Distinct.{AreAllDifferent}
use Rattle.edit_versions.specs.Versions.{VersionReading, named_index, version_names}
use Rattle.edit_versions.proofs.ApartFacts.{names_are_distinct}

-- these names claim the indices from this one on
abbrev claims_from : ℕ → List (List ℕ) → List (List ℕ × ℕ)
claims_from index names = map (λ x. (x.1, x.0)) (enumerate_from index names)

-- a name that isn't among those that claim keeps its index
claims_other : (m : ByText ℕ) (index : ℕ) (names : List (List ℕ)) (name : List ℕ) → AllByRecursion (λ other. name ≡ other → ⊥) names
    → get (with_claims m (claims_from index names)) name ≡ get m name
claims_other m index [] name none = refl
claims_other m index (n ∷ ns) name none =
    claims_other (insert m n index) (index + 1) ns name none.1 ∙ get-insert nat_list_cmp_total m n index name
    ∙ ap (λ b. cond b (Some index) (get m name))
    (is_eq-slice_cmp name n ∙ false_from_ne_true (bytes_eq name n) (λ same. none.0 ((bytes_eq-Decides name n).0 same)))

-- a name among different names that claim gets its own index
claims_own : (m : ByText ℕ) (index : ℕ) (names : List (List ℕ)) (i : ℕ) (name : List ℕ) → AreAllDifferent names
    → slice_get names i ≡ Some name → get (with_claims m (claims_from index names)) name ≡ Some (index + i)
claims_own m index [] i name differ is = absurd (cc)
claims_own m index (n ∷ ns) zero name differ is =
    let same : n ≡ name = cc in
    claims_other (insert m n index) (index + 1) ns name (subst (λ x. AllByRecursion (λ other. x ≡ other → ⊥) ns) same differ.0)
    ∙ get-insert nat_list_cmp_total m n index name
    ∙ ap (λ b. cond b (Some index) (get m name)) (is_eq-slice_cmp name n ∙ (bytes_eq-Decides name n).1 (sym same))
    ∙ ap Some (let none : index ≡ index + 0 = omega arith in none)
claims_own m index (n ∷ ns) (suc i) name differ is =
    claims_own (insert m n index) (index + 1) ns i name differ.1 is ∙ ap Some (let sum : index + 1 + i ≡ index + suc i = omega arith in sum)

pub names_lead_to_units : (v : VersionReading) → length v.units < 2 ^ 64 → (index : ℕ) (name : List ℕ)
    → slice_get (version_names v) index ≡ Some name → named_index v name ≡ Some index
names_lead_to_units v fits index name is =
    claims_own empty 0 (version_names v) index name (names_are_distinct v fits) is
    ∙ ap Some (let same : 0 + index ≡ index = omega arith in same)

-- ---- names that lead to no unit

-- a name is one of these
abbrev pub IsAmong : List ℕ → List (List ℕ) → Type 0
IsAmong name [] = ⊥
IsAmong name (n ∷ ns) = (name ≡ n) ⊎ IsAmong name ns

-- a name is one of the names of a version, or leads to no unit
pub data AmongOrNone (v : VersionReading) (name : List ℕ) : Type 0 where
  among : IsAmong name (version_names v) → AmongOrNone v name
  none : named_index v name ≡ None → AmongOrNone v name

-- a name is one of these, or none of them is equal to it
among_or_other : (names : List (List ℕ)) (name : List ℕ) → IsAmong name names ⊎ AllByRecursion (λ other. name ≡ other → ⊥) names
among_or_other [] name = inr _
among_or_other (n ∷ ns) name = by (bytes_eq name n) refl (among_or_other ns name)
  where
    by : (same : Bool) → bytes_eq name n ≡ same → IsAmong name ns ⊎ AllByRecursion (λ other. name ≡ other → ⊥) ns
        → IsAmong name (n ∷ ns) ⊎ AllByRecursion (λ other. name ≡ other → ⊥) (n ∷ ns)
    by true is rest = inl (inl ((bytes_eq-Decides name n).0 is))
    by false is (inl here) = inl (inr here)
    by false is (inr others) = inr ((λ same. test_clash (bytes_eq name n) ((bytes_eq-Decides name n).1 same) is), others)

pub among_or_none : (v : VersionReading) (name : List ℕ) → AmongOrNone v name
among_or_none v name = elim (among_or_other (version_names v) name) [
  | inl here ↦ AmongOrNone.among here
  | inr others ↦ AmongOrNone.none (claims_other empty 0 (version_names v) name others ∙ get-empty {X = ℕ} by_bytes name)
]
