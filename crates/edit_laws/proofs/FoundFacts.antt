-- A search in a filtered list, and a filtered list in reverse.
use Rattle.std.proofs.Common.{◌≡◌, List, [], ◌∷◌, ◌++◌, Bool, true, false, cond, reverse, refl, sym, ap, ◌∙◌, Some, None}
use Rattle.std.specs.Prelude.{find}
use Rattle.std.specs.List.{filter}
use Rattle.std.proofs.lemmas.Bool.{false≢true}
use Rattle.std.proofs.lemmas.List.{append-nil, reverse-append}
use Rattle.std.proofs.lemmas.List.Elements.{filter-append}

-- filtering doesn't change the result of a search if it keeps each item that passes the test
pub find_passing : {A : Type 0} (test p : A → Bool) → ((x : A) → test x ≡ true → p x ≡ true) → (xs : List A)
    → find test (filter p xs) ≡ find test xs
find_passing test p all [] = refl
find_passing {A} test p all (x ∷ xs) = by_tests (p x) (test x) refl refl (find_passing test p all xs)
  where
    by_tests : (b c : Bool) → p x ≡ b → test x ≡ c → find test (filter p xs) ≡ find test xs
        → find test (cond b (x ∷ filter p xs) (filter p xs)) ≡ cond (test x) (Some x) (find test xs)
    by_tests true c passes is rest = ap (λ o. cond (test x) (Some x) o) rest
    by_tests false true fails is rest = absurd (false≢true (sym fails ∙ all x is))
    by_tests false false fails is rest = rest ∙ sym (ap (λ d. cond d (Some x) (find test xs)) is)

-- a search in a filtered list finds nothing if the filter keeps no item that passes the test
pub find_failing : {A : Type 0} (test p : A → Bool) → ((x : A) → test x ≡ true → p x ≡ false) → (xs : List A)
    → find test (filter p xs) ≡ None
find_failing test p all [] = refl
find_failing {A} test p all (x ∷ xs) = by_tests (p x) (test x) refl refl (find_failing test p all xs)
  where
    by_tests : (b c : Bool) → p x ≡ b → test x ≡ c → find test (filter p xs) ≡ None
        → find test (cond b (x ∷ filter p xs) (filter p xs)) ≡ None
    by_tests false c fails is rest = rest
    by_tests true true passes is rest = absurd (false≢true (sym (all x is) ∙ passes))
    by_tests true false passes is rest = ap (λ d. cond d (Some x) (find test (filter p xs))) is ∙ rest

pub reverse_more : {A : Type 0} (x : A) (xs : List A) → reverse (x ∷ xs) ≡ reverse xs ++ x ∷ []
reverse_more x xs = reverse-append (x ∷ []) xs

pub reverse_filter : {A : Type 0} (p : A → Bool) (xs : List A) → reverse (filter p xs) ≡ filter p (reverse xs)
reverse_filter p [] = refl
reverse_filter {A} p (x ∷ xs) =
    by_test (p x) (reverse_filter p xs) ∙ sym (ap (filter p) (reverse_more x xs) ∙ filter-append p (reverse xs) (x ∷ []))
  where
    by_test : (b : Bool) → reverse (filter p xs) ≡ filter p (reverse xs)
        → reverse (cond b (x ∷ filter p xs) (filter p xs)) ≡ filter p (reverse xs) ++ cond b (x ∷ []) []
    by_test true rest = reverse_more x (filter p xs) ∙ ap (λ t. t ++ x ∷ []) rest
    by_test false rest = rest ∙ sym (append-nil (filter p (reverse xs)))
