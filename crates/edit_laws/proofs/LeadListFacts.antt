-- Two lists side by side, and the first element that passes a test.
use Rattle.std.proofs.Common.{◌≡◌, ℕ, zero, suc, ◌+◌, ◌<◌, Bool, true, false, cond, List, [], ◌∷◌, ◌++◌, length, map, take, Option, Some, None, refl, sym, ap, ◌∙◌, subst, arith}
use Rattle.std.specs.Prelude.{slice_get, slice_set, slice_index_or}
use Rattle.std.specs.List.{AllByRecursion, AllZip}
use Rattle.bib_text.proofs.ListFacts.{some_same}
use Rattle.edit_entries.specs.Documents.{first_position, next_index}

-- ---- two lists side by side

-- each element of the first list is related to the element of the second at its index
pub zip_get : {A B : Type 0} (R : A → B → Type 0) (xs : List A) (ys : List B) (k : ℕ) (x : A) → AllZip R xs ys → slice_get xs k ≡ Some x
    → (y : B) × (slice_get ys k ≡ Some y) × R x y
zip_get R [] [] k x all here = absurd (cc)
zip_get R [] (b ∷ ys) k x all here = absurd all
zip_get R (a ∷ xs) [] k x all here = absurd all
zip_get R (a ∷ xs) (b ∷ ys) zero x all here = (b, refl, subst (λ z. R z b) (some_same here) all.0)
zip_get R (a ∷ xs) (b ∷ ys) (suc k) x all here = zip_get R xs ys k x all.1 here

-- each element of the second list is related to the element of the first at its index
pub zip_back : {A B : Type 0} (R : A → B → Type 0) (xs : List A) (ys : List B) (k : ℕ) (y : B) → AllZip R xs ys → slice_get ys k ≡ Some y
    → (x : A) × (slice_get xs k ≡ Some x) × R x y
zip_back R [] [] k y all here = absurd (cc)
zip_back R [] (b ∷ ys) k y all here = absurd all
zip_back R (a ∷ xs) [] k y all here = absurd all
zip_back R (a ∷ xs) (b ∷ ys) zero y all here = (a, refl, subst (R a) (some_same here) all.0)
zip_back R (a ∷ xs) (b ∷ ys) (suc k) y all here = zip_back R xs ys k y all.1 here

-- lists are related by `S` if they are by `R`, and `R` implies `S` at each index
pub zip_weaker : {A B : Type 0} (R S : A → B → Type 0) (xs : List A) (ys : List B)
    → ((k : ℕ) (x : A) (y : B) → slice_get xs k ≡ Some x → slice_get ys k ≡ Some y → R x y → S x y) → AllZip R xs ys → AllZip S xs ys
zip_weaker R S [] [] follows all = tt
zip_weaker R S [] (b ∷ ys) follows all = absurd all
zip_weaker R S (a ∷ xs) [] follows all = absurd all
zip_weaker R S (a ∷ xs) (b ∷ ys) follows all =
    (follows zero a b refl refl all.0, zip_weaker R S xs ys (λ k. follows (suc k)) all.1)

-- lists are related if each element of the first is related to the image of its element of the second
pub zip_into : {A B C : Type 0} (S : A → C → Type 0) (f : B → C) (xs : List A) (ys : List B) → AllZip (λ x y. S x (f y)) xs ys
    → AllZip S xs (map f ys)
zip_into S f [] [] all = tt
zip_into S f [] (b ∷ ys) all = absurd all
zip_into S f (a ∷ xs) [] all = absurd all
zip_into S f (a ∷ xs) (b ∷ ys) all = (all.0, zip_into S f xs ys all.1)

-- each element is related to its own image if a property implies this and all elements have it
pub zip_own : {A B : Type 0} (P : A → Type 0) (R : A → B → Type 0) (f : A → B) (xs : List A) → ((x : A) → P x → R x (f x))
    → AllByRecursion P xs → AllZip R xs (map f xs)
zip_own P R f [] own all = tt
zip_own P R f (x ∷ xs) own all = (own x all.0, zip_own P R f xs own all.1)

-- each element is related to itself if a property implies this and all elements have it
pub zip_where : {A : Type 0} (P : A → Type 0) (R : A → A → Type 0) (xs : List A) → ((x : A) → P x → R x x)
    → AllByRecursion P xs → AllZip R xs xs
zip_where P R [] own all = tt
zip_where P R (x ∷ xs) own all = (own x all.0, zip_where P R xs own all.1)

-- a list is related to itself if each value is
pub zip_self : {A : Type 0} (R : A → A → Type 0) (xs : List A) → ((x : A) → R x x) → AllZip R xs xs
zip_self R [] itself = tt
zip_self R (x ∷ xs) itself = (itself x, zip_self R xs itself)

-- lists are related if the elements of the second are mapped and the one at `k` is replaced, and each step keeps the relation
pub zip_change : {A B : Type 0} (R S : A → B → Type 0) (f : B → B) (xs : List A) (ys : List B) (k : ℕ) (y z : B) → AllZip R xs ys
    → slice_get ys k ≡ Some y
    → ((i : ℕ) (x : A) (w : B) → (i ≡ k → ⊥) → slice_get xs i ≡ Some x → R x w → S x (f w))
    → ((x : A) → slice_get xs k ≡ Some x → R x y → S x z) → AllZip S xs (slice_set (map f ys) k z)
zip_change R S f [] [] k y z all here others becomes = absurd (cc)
zip_change R S f [] (b ∷ ys) k y z all here others becomes = absurd all
zip_change R S f (a ∷ xs) [] k y z all here others becomes = absurd all
zip_change R S f (a ∷ xs) (b ∷ ys) zero y z all here others becomes = (
  becomes a refl (subst (R a) (some_same here) all.0),
  zip_into S f xs ys
      (zip_weaker R (λ x w. S x (f w)) xs ys (λ i x w found there. others (suc i) x w (λ same. omega (arith, same)) found) all.1),
)
zip_change R S f (a ∷ xs) (b ∷ ys) (suc k) y z all here others becomes = (
  others zero a b (λ same. omega (arith, same)) refl all.0,
  zip_change R S f xs ys k y z all.1 here (λ i x w other. others (suc i) x w (λ same. other (omega (arith, same)))) becomes,
)

-- ---- elements by their indices

-- the element at an index of a mapped list is the image of the element there
pub index_of_get : {A B : Type 0} (f : A → B) (xs : List A) (k : ℕ) (x : A) (none : B) → slice_get xs k ≡ Some x
    → slice_index_or (map f xs) k none ≡ f x
index_of_get f [] k x none here = absurd (cc)
index_of_get f (y ∷ ys) zero x none here = ap f (some_same here)
index_of_get f (y ∷ ys) (suc k) x none here = index_of_get f ys k x none here

-- a first part of a list has the same elements at its indices
pub get_take : {A : Type 0} (xs : List A) (n k : ℕ) → k < n → slice_get (take n xs) k ≡ slice_get xs k
get_take [] zero k below = absurd (omega arith)
get_take [] (suc n) k below = refl
get_take (x ∷ xs) zero k below = absurd (omega arith)
get_take (x ∷ xs) (suc n) zero below = refl
get_take (x ∷ xs) (suc n) (suc k) below = get_take xs n k (omega arith)

-- an element of the second part of a list has its index there plus the length of the first part
pub get_past : {A : Type 0} (xs ys : List A) (k n : ℕ) → n ≡ length xs + k → slice_get (xs ++ ys) n ≡ slice_get ys k
get_past [] ys k n is = let same : n ≡ k = omega arith in ap (slice_get ys) same
get_past (x ∷ xs) ys k zero is = absurd (omega arith)
get_past (x ∷ xs) ys k (suc n) is = get_past xs ys k n (omega arith)

-- ---- the first element that passes a test

-- an element passes a test, and those before it don't
pub record IsFirst {A : Type 0} (test : A → Bool) (xs : List A) (k : ℕ) : Type 0 where
  pub element : A
  pub here : slice_get xs k ≡ Some element
  pub passes : test element ≡ true
  pub before : (i : ℕ) (x : A) → i < k → slice_get xs i ≡ Some x → test x ≡ false

-- if the first element fails the test, and so do the first `k` of the rest, the first `suc k` elements fail it
before_more : {A : Type 0} (test : A → Bool) (x : A) (xs : List A) (k : ℕ) → test x ≡ false
    → ((i : ℕ) (y : A) → i < k → slice_get xs i ≡ Some y → test y ≡ false) → (i : ℕ) (y : A) → i < suc k → slice_get (x ∷ xs) i ≡ Some y
    → test y ≡ false
before_more test x xs k fails before zero y below there = ap test (sym (some_same there)) ∙ fails
before_more test x xs k fails before (suc i) y below there = before i y (omega arith) there

-- an index that `first_position` returns is that of the first element that passes
pub first_facts : {A : Type 0} (test : A → Bool) (xs : List A) (k : ℕ) → first_position test xs ≡ Some k → IsFirst test xs k
first_facts test [] k found = absurd (cc)
first_facts {A} test (x ∷ xs) k found = by_test (test x) (first_position test xs) refl (first_facts test xs) found
  where
    by_test : (b : Bool) (rest : Option ℕ) → test x ≡ b → ((i : ℕ) → rest ≡ Some i → IsFirst test xs i)
        → cond b (Some 0) (next_index rest) ≡ Some k → IsFirst test (x ∷ xs) k
    by_test true rest is others same =
        subst (IsFirst test (x ∷ xs)) (some_same same)
        (record { element = x; here = refl; passes = is; before = λ i y below there. absurd (omega arith) })
    by_test false None is others same = absurd (cc)
    by_test false (Some i) is others same =
        let f = others i refl in
        subst (IsFirst test (x ∷ xs)) (some_same same)
        (record { element = f.element; here = f.here; passes = f.passes; before = before_more test x xs i is f.before })

-- if `first_position` returns `None`, no element passes
pub none_facts : {A : Type 0} (test : A → Bool) (xs : List A) → first_position test xs ≡ None → (k : ℕ) (x : A) → slice_get xs k ≡ Some x
    → test x ≡ false
none_facts test [] none k x here = absurd (cc)
none_facts {A} test (y ∷ ys) none k x here = by_test (test y) (first_position test ys) refl (none_facts test ys) none k here
  where
    by_test : (b : Bool) (rest : Option ℕ) → test y ≡ b
        → (rest ≡ None → (i : ℕ) (z : A) → slice_get ys i ≡ Some z → test z ≡ false)
        → cond b (Some 0) (next_index rest) ≡ None → (i : ℕ) → slice_get (y ∷ ys) i ≡ Some x → test x ≡ false
    by_test true rest is others same i there = absurd (cc)
    by_test false (Some j) is others same i there = absurd (cc)
    by_test false None is others same zero there = ap test (sym (some_same there)) ∙ is
    by_test false None is others same (suc i) there = others refl i x there

-- `first_position` returns the index of the first element that passes
pub first_is : {A : Type 0} (test : A → Bool) (xs : List A) (k : ℕ) → IsFirst test xs k → first_position test xs ≡ Some k
first_is test [] k f = absurd (let here = f.here in cc)
first_is test (x ∷ xs) zero f =
    let passes : test x ≡ true = ap test (some_same f.here) ∙ f.passes in
    ap (λ b. cond b (Some 0) (next_index (first_position test xs))) passes
first_is test (x ∷ xs) (suc k) f =
    let rest : first_position test xs ≡ Some k =
    first_is test xs k
    (record { element = f.element; here = f.here; passes = f.passes; before = λ i y below. f.before (suc i) y (omega (arith, below)) }) in
    ap (λ b. cond b (Some 0) (next_index (first_position test xs))) (f.before zero x (omega arith) refl) ∙ ap next_index rest

-- if no element passes, `first_position` returns `None`
pub none_is : {A : Type 0} (test : A → Bool) (xs : List A) → ((k : ℕ) (x : A) → slice_get xs k ≡ Some x → test x ≡ false)
    → first_position test xs ≡ None
none_is test [] fails = refl
none_is test (x ∷ xs) fails =
    ap (λ b. cond b (Some 0) (next_index (first_position test xs))) (fails zero x refl)
    ∙ ap next_index (none_is test xs (λ k. fails (suc k)))

-- tests with the same results at each index of two lists have the same first position
pub first_same : {A B : Type 0} (test : A → Bool) (other : B → Bool) (xs : List A) (ys : List B)
    → AllZip (λ x y. other y ≡ test x) xs ys → first_position other ys ≡ first_position test xs
first_same test other [] [] all = refl
first_same test other [] (y ∷ ys) all = absurd all
first_same test other (x ∷ xs) [] all = absurd all
first_same test other (x ∷ xs) (y ∷ ys) all =
    ap (λ b. cond b (Some 0) (next_index (first_position other ys))) all.0
    ∙ ap (λ o. cond (test x) (Some 0) (next_index o)) (first_same test other xs ys all.1)
