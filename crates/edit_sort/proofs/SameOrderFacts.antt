-- A list has only one sorted order if items that tie are equal.
use Rattle.std.proofs.Common.{◌≡◌, ◌⊎◌, inl, inr, ℕ, ◌+◌, ◌<◌, Bool, true, false, List, [], ◌∷◌, refl, sym, ap, ◌∙◌, subst, arith}
use Rattle.std.specs.Prelude.{◌==◌}
use Rattle.std.specs.List.{AllByRecursion, sum_by}
use Rattle.std.specs.List.Sorted.{IsPermutation}
use Rattle.std.proofs.lemmas.Bool.{eq-eqb, eqb-true}
use Rattle.std.proofs.lemmas.List.Sorted.{sum_by-IsPermutation}
use Rattle.std.proofs.lemmas.List.Sums.{sum_by-cons}

one_if : Bool → ℕ
one_if true = 1
one_if false = 0

abbrev pub IsIn : {A : Type 0} → A → List A → Type 0
IsIn x [] = ⊥
IsIn x (y ∷ ys) = (x ≡ y) ⊎ IsIn x ys

pub in_all : {A : Type 0} (P : A → Type 0) (x : A) (xs : List A) → AllByRecursion P xs → IsIn x xs → P x
in_all P x [] all there = absurd there
in_all P x (y ∷ ys) all (inl same) = subst P (sym same) all.0
in_all P x (y ∷ ys) all (inr later) = in_all P x ys all.1 later

-- each item is related to all items after it
abbrev pub AreUp : {A : Type 0} → (A → A → Type 0) → List A → Type 0
AreUp NotAfter [] = Unit {0}
AreUp NotAfter (x ∷ xs) = AllByRecursion (NotAfter x) xs × AreUp NotAfter xs

module _ {A : Type 0} (key : A → ℕ) where
  has_key : ℕ → A → ℕ
  has_key n x = one_if (key x == n)

  -- the number of items with a key
  abbrev count_of : ℕ → List A → ℕ
  count_of n [] = 0
  count_of n (x ∷ xs) = has_key n x + count_of n xs

  count_is : (n : ℕ) (xs : List A) → sum_by (has_key n) xs ≡ count_of n xs
  count_is n [] = refl
  count_is n (x ∷ xs) = sum_by-cons (has_key n) x xs ∙ ap (λ m. has_key n x + m) (count_is n xs)

  has_own : (x : A) → has_key (key x) x ≡ 1
  unfolding has_key one_if
  has_own x = ap one_if (eq-eqb (key x) (key x) refl)

  key_cases : (n : ℕ) (x : A) → (has_key n x ≡ 0) ⊎ (key x ≡ n)
  unfolding has_key one_if
  key_cases n x = by_test (key x == n) refl
    where
      by_test : (b : Bool) → (key x == n) ≡ b → (one_if b ≡ 0) ⊎ (key x ≡ n)
      by_test true is = inr (eqb-true (key x) n is)
      by_test false is = inl refl

  found : (n : ℕ) (xs : List A) → 0 < count_of n xs → (x : A) × IsIn x xs × (key x ≡ n)
  found n [] some = absurd (omega arith)
  found n (x ∷ xs) some =
      elim (key_cases n x) [
        | inr here ↦ (x, inl refl, here)
        | inl other ↦
            let later = found n xs (omega (arith, other)) in
            (later.0, inr later.1, later.2)
      ]

  module _ (Known : A → Type 0) (NotAfter : A → A → Type 0)
      (one : (x y : A) → Known x → Known y → key x ≡ key y → x ≡ y)
      (tie : (x y : A) → Known x → Known y → NotAfter x y → NotAfter y x → x ≡ y) where
    there_is : (x : A) (ys : List A) → Known x → AllByRecursion Known ys → 0 < count_of (key x) ys → IsIn x ys
    there_is x ys known each some =
        let y = found (key x) ys some in
        subst (λ z. IsIn z ys) (one y.0 x (in_all Known y.0 ys each y.1) known y.2) y.1

    first_same : (x y : A) (xs ys : List A) → Known x → Known y → AllByRecursion (NotAfter x) xs
        → AllByRecursion (NotAfter y) ys → IsIn x (y ∷ ys) → IsIn y (x ∷ xs) → x ≡ y
    first_same x y xs ys known known' up up' (inl same) there' = same
    first_same x y xs ys known known' up up' (inr there) (inl same) = sym same
    first_same x y xs ys known known' up up' (inr there) (inr there') =
        tie x y known known' (in_all (NotAfter x) y xs up there') (in_all (NotAfter y) x ys up' there)

    by_counts : (xs ys : List A) → AreUp NotAfter xs → AreUp NotAfter ys → AllByRecursion Known xs
        → AllByRecursion Known ys → ((n : ℕ) → count_of n xs ≡ count_of n ys) → xs ≡ ys
    by_counts [] [] up up' each each' counts = refl
    by_counts [] (y ∷ ys) up up' each each' counts = absurd (omega (arith, counts (key y), has_own y))
    by_counts (x ∷ xs) [] up up' each each' counts = absurd (omega (arith, counts (key x), has_own x))
    by_counts (x ∷ xs) (y ∷ ys) up up' each each' counts =
        let there = there_is x (y ∷ ys) each.0 each' (omega (arith, counts (key x), has_own x)) in
        let there' = there_is y (x ∷ xs) each'.0 each (omega (arith, counts (key y), has_own y)) in
        let same = first_same x y xs ys each.0 each'.0 up.0 up'.0 there there' in
        let rest = by_counts xs ys up.1 up'.1 each.1 each'.1 (λ n. omega (arith, counts n, ap (has_key n) same)) in
        ap (λ z. z ∷ xs) same ∙ ap (λ l. y ∷ l) rest

    pub same_order : (xs ys : List A) → AreUp NotAfter xs → AreUp NotAfter ys → AllByRecursion Known xs
        → AllByRecursion Known ys → IsPermutation xs ys → xs ≡ ys
    same_order xs ys up up' each each' permutation =
        by_counts xs ys up up' each each'
        (λ n. sym (count_is n xs) ∙ sym (sum_by-IsPermutation (has_key n) xs ys permutation) ∙ count_is n ys)
