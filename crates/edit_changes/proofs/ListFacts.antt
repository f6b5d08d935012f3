-- Lists of names with their indices, and tests of all elements.
use Rattle.std.proofs.Common.{◌≡◌, ◌<◌, ◌+◌, ℕ, zero, suc, Bool, true, false, ◌&&◌, cond, List, [], ◌∷◌, Some, filter, length, refl, sym, ap, ◌∙◌, subst, arith}
use Rattle.std.specs.Prelude.{bytes_eq, slice_get}
use Rattle.std.specs.Cmp.Lexicographic.{pointwise}
use Rattle.std.specs.List.{AllByRecursion, enumerate_from, flat_map, list_all}
use Rattle.std.proofs.lemmas.Bool.{false≢true}
use Rattle.std.proofs.lemmas.List.Folds.{list_all-append}
use Rattle.std.proofs.lemmas.Slice.Eq.{bytes_eq-Decides}

-- two tests that both pass
pub both_true : (a b : Bool) → (a && b) ≡ true → (a ≡ true) × (b ≡ true)
both_true true b is = (refl, is)
both_true false b is = absurd (false≢true is)

-- a test passes all elements of lists one after another exactly if it passes those of each list
pub each_passes : {X C : Type 0} (p : C → Bool) (f : X → List C) (xs : List X) → list_all p (flat_map f xs) ≡ true
    → AllByRecursion (λ x. list_all p (f x) ≡ true) xs
each_passes p f [] all = _
each_passes p f (x ∷ xs) all =
    let parts = both_true (list_all p (f x)) (list_all p (flat_map f xs)) (sym (list_all-append p (f x) (flat_map f xs)) ∙ all) in
    (parts.0, each_passes p f xs parts.1)

pub all_pass : {X C : Type 0} (p : C → Bool) (f : X → List C) (xs : List X) → AllByRecursion (λ x. list_all p (f x) ≡ true) xs
    → list_all p (flat_map f xs) ≡ true
all_pass p f [] each = refl
all_pass p f (x ∷ xs) each =
    list_all-append p (f x) (flat_map f xs) ∙ ap (λ b. b && list_all p (flat_map f xs)) each.0 ∙ all_pass p f xs each.1

-- what holds of each value holds of all elements
pub all_of_each : {X : Type 0} (P : X → Type 0) → ((x : X) → P x) → (xs : List X) → AllByRecursion P xs
all_of_each P each [] = _
all_of_each P each (x ∷ xs) = (each x, all_of_each P each xs)

-- what holds of all names with their indices holds at each index, and the other way round
pub enumerated_at : (P : ℕ → List ℕ → Type 0) (first : ℕ) (names : List (List ℕ))
    → AllByRecursion (λ x. P x.0 x.1) (enumerate_from first names) → (i : ℕ) (name : List ℕ) → slice_get names i ≡ Some name
    → P (first + i) name
enumerated_at P first [] all i name is = absurd (cc)
enumerated_at P first (n ∷ ns) all zero name is =
    let same : n ≡ name = cc in
    let here : first ≡ first + 0 = omega arith in
    subst (λ x. P (first + 0) x) same (subst (λ k. P k n) here all.0)
enumerated_at P first (n ∷ ns) all (suc i) name is =
    let later : first + 1 + i ≡ first + suc i = omega arith in
    subst (λ k. P k name) later (enumerated_at P (first + 1) ns all.1 i name is)

pub enumerated_all : (P : ℕ → List ℕ → Type 0) (first : ℕ) (names : List (List ℕ))
    → ((i : ℕ) (name : List ℕ) → slice_get names i ≡ Some name → P (first + i) name)
    → AllByRecursion (λ x. P x.0 x.1) (enumerate_from first names)
enumerated_all P first [] each = _
enumerated_all P first (n ∷ ns) each =
    let here : first + 0 ≡ first = omega arith in (
      subst (λ k. P k n) here (each 0 n refl),
      enumerated_all P (first + 1) ns
          (λ i name is.
          let later : first + suc i ≡ first + 1 + i = omega arith in subst (λ k. P k name) later (each (suc i) name is)),
    )

-- what holds of the name at each index holds of all names
pub all_names : (P : List ℕ → Type 0) (names : List (List ℕ)) → ((i : ℕ) (name : List ℕ) → slice_get names i ≡ Some name → P name)
    → AllByRecursion P names
all_names P [] each = _
all_names P (n ∷ ns) each = (each 0 n refl, all_names P ns (λ i name is. each (suc i) name is))

-- an index with an element is below the length
pub below_length : (names : List (List ℕ)) (i : ℕ) (name : List ℕ) → slice_get names i ≡ Some name → i < length names
below_length [] i name is = absurd (cc)
below_length (n ∷ ns) zero name is = omega arith
below_length (n ∷ ns) (suc i) name is = let below : i < length ns = below_length ns i name is in omega arith

-- a filter keeps all elements that pass
pub filter_all : (p : List ℕ → Bool) (xs : List (List ℕ)) → AllByRecursion (λ x. p x ≡ true) xs → filter p xs ≡ xs
filter_all p [] each = refl
filter_all p (x ∷ xs) each = ap (λ b. cond b (x ∷ filter p xs) (filter p xs)) each.0 ∙ ap (λ l. x ∷ l) (filter_all p xs each.1)

-- the test of two lists of names tells whether they are equal
pub same_names : (xs ys : List (List ℕ)) → pointwise bytes_eq xs ys ≡ true → xs ≡ ys
same_names [] [] is = refl
same_names [] (y ∷ ys) is = absurd (false≢true is)
same_names (x ∷ xs) [] is = absurd (false≢true is)
same_names (x ∷ xs) (y ∷ ys) is =
    let parts = both_true (bytes_eq x y) (pointwise bytes_eq xs ys) is in
    ap (λ z. z ∷ xs) ((bytes_eq-Decides x y).0 parts.0) ∙ ap (λ l. y ∷ l) (same_names xs ys parts.1)

pub names_same : (xs : List (List ℕ)) → pointwise bytes_eq xs xs ≡ true
names_same [] = refl
names_same (x ∷ xs) = ap (λ b. b && pointwise bytes_eq xs xs) ((bytes_eq-Decides x x).1 refl) ∙ names_same xs
