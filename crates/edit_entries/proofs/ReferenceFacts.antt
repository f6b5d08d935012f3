-- The first element of a list that passes a test, and joined lists.
use Rattle.std.proofs.Common.{◌≡◌, ℕ, zero, suc, ◌<◌, Bool, true, false, cond, List, [], ◌∷◌, ◌++◌, map, length, get_or, take, refl, sym, ap, ◌∙◌, arith, Option, Some, None}
use Rattle.std.specs.Prelude.{◌||◌, is_some, option_map}
use Rattle.std.specs.List.{find, flat_map, join_by, list_any}
use Rattle.bib_text.proofs.OptionFacts.{some_mapped}

-- an element that passes a test is the first one if none before it does
pub found_at : {A : Type 0} (test : A → Bool) (xs : List A) (k : ℕ) (x : A) → k < length xs → x ≡ get_or xs k x
    → find test (take k xs) ≡ None → test x ≡ true → find test xs ≡ Some x
found_at test [] k x within is before passes = absurd (omega arith)
found_at test (y ∷ ys) zero x within is before passes =
    let here : test y ≡ true = ap test (sym is) ∙ passes in
    ap (λ b. cond b (Some y) (find test ys)) here ∙ ap Some (sym is)
found_at test (y ∷ ys) (suc k) x within is before passes =
    by_case (test y) before (λ none. found_at test ys k x (omega arith) is none passes)
  where
    by_case : (b : Bool) → cond b (Some y) (find test (take k ys)) ≡ None → (find test (take k ys) ≡ None → find test ys ≡ Some x)
        → cond b (Some y) (find test ys) ≡ Some x
    by_case true clash rest = absurd (cc)
    by_case false none rest = rest none

-- if no element passes a test and one more fails, no element passes
pub none_found : {A : Type 0} (test : A → Bool) (xs : List A) (x : A) → find test xs ≡ None → test x ≡ false
    → find test (xs ++ x ∷ []) ≡ None
none_found test [] x none fails = ap (λ b. cond b (Some x) None) fails
none_found test (y ∷ ys) x none fails = by_case (test y) none (λ rest. none_found test ys x rest fails)
  where
    by_case : (b : Bool) → cond b (Some y) (find test ys) ≡ None → (find test ys ≡ None → find test (ys ++ x ∷ []) ≡ None)
        → cond b (Some y) (find test (ys ++ x ∷ [])) ≡ None
    by_case true clash rest = absurd (cc)
    by_case false found rest = rest found

some_found : {A : Type 0} (test : A → Bool) (xs : List A) → is_some (find test xs) ≡ list_any test xs
some_found test [] = refl
some_found test (x ∷ xs) = by_case (test x) (some_found test xs)
  where
    by_case : (b : Bool) → is_some (find test xs) ≡ list_any test xs → is_some (cond b (Some x) (find test xs)) ≡ b || list_any test xs
    by_case true rest = refl
    by_case false rest = rest

-- an optional result of a search is `Some` exactly if an element passes the test
pub any_found : {A B C : Type 0} (f : A → B) (g : C → B) (test : A → Bool) (xs : List A) (o : Option C)
    → option_map g o ≡ option_map f (find test xs) → is_some o ≡ list_any test xs
any_found f g test xs o same = sym (some_mapped g o) ∙ ap is_some same ∙ some_mapped f (find test xs) ∙ some_found test xs

-- two lists with the same images are joined to the same text
flat_read : {A B C : Type 0} (f : A → List C) (g : B → List C) (sep : List C) (xs : List A) (ys : List B)
    → map f xs ≡ map g ys → flat_map (λ x. sep ++ f x) xs ≡ flat_map (λ y. sep ++ g y) ys
flat_read f g sep [] [] same = refl
flat_read f g sep [] (y ∷ ys) same = absurd (cc)
flat_read f g sep (x ∷ xs) [] same = absurd (cc)
flat_read f g sep (x ∷ xs) (y ∷ ys) same =
    let first : f x ≡ g y = cc in
    let rest : map f xs ≡ map g ys = cc in
    ap (λ z. (sep ++ z) ++ flat_map (λ x. sep ++ f x) xs) first ∙ ap (λ z. (sep ++ g y) ++ z) (flat_read f g sep xs ys rest)

pub join_read : {A B C : Type 0} (f : A → List C) (g : B → List C) (sep : List C) (xs : List A) (ys : List B)
    → map f xs ≡ map g ys → join_by f sep xs ≡ join_by g sep ys
join_read f g sep [] [] same = refl
join_read f g sep [] (y ∷ ys) same = absurd (cc)
join_read f g sep (x ∷ xs) [] same = absurd (cc)
join_read f g sep (x ∷ xs) (y ∷ ys) same =
    let first : f x ≡ g y = cc in
    let rest : map f xs ≡ map g ys = cc in
    ap (λ z. z ++ flat_map (λ x. sep ++ f x) xs) first ∙ ap (λ z. g y ++ z) (flat_read f g sep xs ys rest)
