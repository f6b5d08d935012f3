-- The first and the last index at which a test is passed, while a loop visits a list.
use Rattle.std.proofs.Common.{◌≡◌, ℕ, zero, suc, ◌+◌, ◌<◌, Bool, true, false, cond, List, [], ◌∷◌, ◌++◌, length, map, take, drop, get_or, refl, sym, ap, ◌∙◌, arith, Option, Some, None}
use Rattle.std.specs.Prelude.{slice_get}
use Rattle.std.proofs.lemmas.List.{take_more, drop_more, take-append-drop, map-append, length-map, length-take-le}
use Rattle.edit_entries.specs.Documents.{first_position, last_position, next_index, or_first}

-- if no element passes and one more fails, no element passes
first-push : {A : Type 0} (test : A → Bool) (xs : List A) (x : A) → first_position test xs ≡ None → test x ≡ false
    → first_position test (xs ++ x ∷ []) ≡ None
first-push test [] x none fails = ap (λ b. cond b (Some 0) None) fails
first-push test (y ∷ ys) x none fails =
    here (test y) (first_position test ys) (first_position test (ys ++ x ∷ []))
    (λ others. first-push test ys x others fails) none
  where
    here : (b : Bool) (now all : Option ℕ) → (now ≡ None → all ≡ None) → cond b (Some 0) (next_index now) ≡ None
        → cond b (Some 0) (next_index all) ≡ None
    here true now all step none = absurd (cc)
    here false (Some i) all step none = absurd (cc)
    here false None all step none = ap next_index (step refl)

-- an element that passes after others that fail has the first index
first-here : {A : Type 0} (test : A → Bool) (xs ys : List A) (x : A) → first_position test xs ≡ None → test x ≡ true
    → first_position test (xs ++ x ∷ ys) ≡ Some (length xs)
first-here test [] ys x none passes = ap (λ b. cond b (Some 0) (next_index (first_position test ys))) passes
first-here test (z ∷ zs) ys x none passes =
    here (test z) (first_position test zs) (first_position test (zs ++ x ∷ ys)) (length zs)
    (λ others. first-here test zs ys x others passes) none
  where
    here : (b : Bool) (now all : Option ℕ) (n : ℕ) → (now ≡ None → all ≡ Some n)
        → cond b (Some 0) (next_index now) ≡ None → cond b (Some 0) (next_index all) ≡ Some (suc n)
    here true now all n step none = absurd (cc)
    here false (Some i) all n step none = absurd (cc)
    here false None all n step none = ap next_index (step refl)

last-push : {A : Type 0} (test : A → Bool) (xs : List A) (x : A)
    → last_position test (xs ++ x ∷ []) ≡ cond (test x) (Some (length xs)) (last_position test xs)
last-push test [] x = refl
last-push test (y ∷ ys) x = ap (or_first (test y)) (last-push test ys x) ∙ here (test x) (test y) (length ys) (last_position test ys)
  where
    here : (a b : Bool) (n : ℕ) (last : Option ℕ) → or_first b (cond a (Some n) last) ≡ cond a (Some (suc n)) (or_first b last)
    here true b n last = refl
    here false b n last = refl

module _ {A B : Type 0} (view : A → B) (test : B → Bool) (xs : List A) (i : ℕ) (x : A) (within : i < length xs)
    (is : x ≡ get_or xs i x) where
  taken : map view (take (i + 1) xs) ≡ map view (take i xs) ++ view x ∷ []
  taken = ap (map view) (take_more xs i x within ∙ ap (λ y. take i xs ++ y ∷ []) (sym is)) ∙ map-append view (take i xs) (x ∷ [])

  size : length (map view (take i xs)) ≡ i
  size = length-map (take i xs) view ∙ length-take-le i xs (omega arith)

  pub first_step : first_position test (map view (take i xs)) ≡ None → test (view x) ≡ false
      → first_position test (map view (take (i + 1) xs)) ≡ None
  first_step none fails = ap (first_position test) taken ∙ first-push test (map view (take i xs)) (view x) none fails

  pub last_step : last_position test (map view (take (i + 1) xs))
      ≡ cond (test (view x)) (Some i) (last_position test (map view (take i xs)))
  last_step =
      ap (last_position test) taken ∙ last-push test (map view (take i xs)) (view x)
      ∙ ap (λ n. cond (test (view x)) (Some n) (last_position test (map view (take i xs)))) size

  pub first_found : first_position test (map view (take i xs)) ≡ None → test (view x) ≡ true → first_position test (map view xs) ≡ Some i
  first_found none passes =
      let whole : xs ≡ take i xs ++ x ∷ drop (i + 1) xs =
      sym (take-append-drop i xs)
      ∙ ap (λ ys. take i xs ++ ys) (drop_more xs i x within ∙ ap (λ y. y ∷ drop (i + 1) xs) (sym is)) in
      ap (first_position test) (ap (map view) whole ∙ map-append view (take i xs) (x ∷ drop (i + 1) xs))
      ∙ first-here test (map view (take i xs)) (map view (drop (i + 1) xs)) (view x) none passes ∙ ap Some size

-- the element of a mapped list at an index is the image of the element there
pub slice_get-map : {A B : Type 0} (view : A → B) (xs : List A) (k : ℕ) (x : A) → k < length xs → x ≡ get_or xs k x
    → slice_get (map view xs) k ≡ Some (view x)
slice_get-map view [] k x within is = absurd (omega arith)
slice_get-map view (y ∷ ys) zero x within is = ap (λ z. Some (view z)) (sym is)
slice_get-map view (y ∷ ys) (suc k) x within is = slice_get-map view ys k x (omega arith) is
