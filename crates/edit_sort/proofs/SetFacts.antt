-- Whether an item of a list passes a test.
use Rattle.std.proofs.Common.{◌≡◌, ℕ, ◌+◌, ◌<◌, Bool, true, false, List, [], ◌∷◌, ◌++◌, get_or, length, map, take, refl, sym, ap, ◌∙◌}
use Rattle.std.specs.Prelude.{◌&&◌, ◌||◌}
use Rattle.std.specs.List.{AllByRecursion, Contains, list_any}
use Rattle.std.proofs.lemmas.List.{map-append, take_more}
use Rattle.std.proofs.lemmas.List.Folds.{list_any-append, list_any_at}
use Rattle.std.proofs.lemmas.Bool.{or_right}
use Rattle.std.proofs.Math.Bool.{or-false}

-- two tests have the same result if each passes when the other does
pub same_tests : (a b : Bool) → (a ≡ true → b ≡ true) → (b ≡ true → a ≡ true) → a ≡ b
same_tests true b first second = sym (first refl)
same_tests false true first second = second refl
same_tests false false first second = refl

-- an item of the first `i + 1` passes exactly if one of the first `i` does or the next one does
pub any_more : {A B : Type 0} (p : B → Bool) (f : A → B) (xs : List A) (i : ℕ) (x : A) → i < length xs
    → x ≡ get_or xs i x → list_any p (map f (take (i + 1) xs)) ≡ (list_any p (map f (take i xs)) || p (f x))
any_more p f xs i x within is =
    ap (λ l. list_any p (map f l)) (take_more xs i x within ∙ ap (λ e. take i xs ++ e ∷ []) (sym is))
    ∙ ap (list_any p) (map-append f (take i xs) (x ∷ []))
    ∙ list_any-append p (map f (take i xs)) (f x ∷ []) ∙ ap (λ b. list_any p (map f (take i xs)) || b) (or-false (p (f x)))

-- if an item of a list passes, some item does
pub any_contained : {A : Type 0} (p : A → Bool) (xs : List A) (x : A) → Contains xs x → p x ≡ true → list_any p xs ≡ true
any_contained p xs x there passes = list_any_at p xs there.0 x there.1 (ap p there.2 ∙ passes)

-- if some item passes a test, some item passes a weaker test
pub any_both : {A : Type 0} (p q : A → Bool) (xs : List A) → ((x : A) → p x ≡ true → q x ≡ true) → list_any p xs ≡ true
    → list_any q xs ≡ true
any_both p q [] both some = some
any_both p q (x ∷ xs) both some = by_test (p x) refl some (any_both p q xs both)
  where
    by_test : (b : Bool) → p x ≡ b → (b || list_any p xs) ≡ true → (list_any p xs ≡ true → list_any q xs ≡ true)
        → (q x || list_any q xs) ≡ true
    by_test true is some' later = ap (λ b. b || list_any q xs) (both x is)
    by_test false is some' later = or_right (q x) (list_any q xs) (later some')

-- tests that agree on all items pass in the same lists
pub any_same : {A : Type 0} (p q : A → Bool) (xs : List A) → ((x : A) → p x ≡ q x) → list_any p xs ≡ list_any q xs
any_same p q [] same = refl
any_same p q (x ∷ xs) same = ap (λ b. b || list_any p xs) (same x) ∙ ap (λ b. q x || b) (any_same p q xs same)

-- tests that agree on all items with a property pass in the same lists of such items
pub any_where : {A : Type 0} (P : A → Type 0) (p q : A → Bool) (xs : List A) → ((x : A) → P x → p x ≡ q x)
    → AllByRecursion P xs → list_any p xs ≡ list_any q xs
any_where P p q [] same all = refl
any_where P p q (x ∷ xs) same all =
    ap (λ b. b || list_any p xs) (same x all.0) ∙ ap (λ b. q x || b) (any_where P p q xs same all.1)

-- mapping the items by a function that the test doesn't notice keeps the result
pub any_through : {A : Type 0} (p : A → Bool) (g : A → A) (xs : List A) → ((x : A) → p (g x) ≡ p x) → list_any p (map g xs) ≡ list_any p xs
any_through p g [] same = refl
any_through p g (x ∷ xs) same = ap (λ b. b || list_any p (map g xs)) (same x) ∙ ap (λ b. p x || b) (any_through p g xs same)

-- `(s && t) || (o && t)` is `(s || o) && t`, also after another alternative
pub one_more_or : (a s o t : Bool) → ((a || (s && t)) || (o && t)) ≡ (a || ((s || o) && t))
one_more_or true s o t = refl
one_more_or false true true true = refl
one_more_or false true true false = refl
one_more_or false true false true = refl
one_more_or false true false false = refl
one_more_or false false o t = refl
