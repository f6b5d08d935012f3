-- Marks, the elements with marks, and lists that are built element by element.
use Rattle.std.proofs.Common.{◌≡◌, ◌≢◌, ◌<◌, ◌+◌, ◌||◌, ℕ, zero, suc, Bool, true, false, not, cond, List, [], ◌∷◌, ◌++◌, take, map, length, get_or, set, replicate, refl, sym, ap, subst, ◌∙◌, arith, append_assoc, append-nil, get_or-set_same, get_or-set_other, ◌⊎◌, inl, inr}
use Rattle.std.specs.Prelude.{min}
use Rattle.std.specs.List.{flat_map, list_any, AllByRecursion}
use Rattle.std.proofs.lemmas.List.{get_or_past, get_or-replicate, length-replicate, map-append, take_more}
use Rattle.std.proofs.lemmas.List.Concat.{flat_map-append}
use Rattle.std.proofs.lemmas.List.Sums.{sum_by-set}
use Rattle.std.proofs.lemmas.Bool.{false≢true, cases_lt}
use Rattle.std.proofs.lemmas.Bool.Decides.{eqb_tells}
use Rattle.bib_queries.specs.Needed.{IsMarked, with_marks}
use Rattle.bib_queries.specs.Searching.{unmarked_count}
use Rattle.std.proofs.Math.Bool.{or-true}

-- the output for an element if it has a mark, or nothing
abbrev pub made_if : {Y A : Type 0} → (Y → List A) → Bool → Y → List A
made_if f true y = f y
made_if f false y = []

made_more : {X Y A : Type 0} (v : X → Y) (f : Y → List A) (marks : List Bool) (xs : List X) (n : ℕ) (m : Bool) (x : X)
    → n < length marks → n < length xs → get_or marks n m ≡ m → get_or xs n x ≡ x
    → flat_map f (with_marks (take (suc n) marks) (map v (take (suc n) xs)))
    ≡ flat_map f (with_marks (take n marks) (map v (take n xs))) ++ cond m (f (v x)) []
made_more v f [] xs n m x short within mark is = absurd (omega (arith, short))
made_more v f (b ∷ marks) [] n m x within short mark is = absurd (omega (arith, short))
made_more v f (true ∷ marks) (y ∷ xs) zero true x short within mark is = ap (λ z. f (v z) ++ []) is ∙ append-nil (f (v x))
made_more v f (true ∷ marks) (y ∷ xs) zero false x short within mark is = absurd (false≢true (sym mark))
made_more v f (false ∷ marks) (y ∷ xs) zero true x short within mark is = absurd (false≢true mark)
made_more v f (false ∷ marks) (y ∷ xs) zero false x short within mark is = refl
made_more v f (true ∷ marks) (y ∷ xs) (suc n) m x short within mark is =
    ap (λ l. f (v y) ++ l) (made_more v f marks xs n m x (omega (arith, short)) (omega (arith, within)) mark is)
    ∙ sym (append_assoc (f (v y)) (flat_map f (with_marks (take n marks) (map v (take n xs)))) (cond m (f (v x)) []))
made_more v f (false ∷ marks) (y ∷ xs) (suc n) m x short within mark is =
    made_more v f marks xs n m x (omega (arith, short)) (omega (arith, within)) mark is

-- the output for the elements with marks grows by that for the next element, if it has a mark
pub marked_made : {X Y A : Type 0} (v : X → Y) (f : Y → List A) (marks : List Bool) (xs : List X) (n : ℕ) (m : Bool)
    (x : X) (start old new : List A) → n < length marks → n < length xs → get_or marks n m ≡ m → get_or xs n x ≡ x
    → old ≡ start ++ flat_map f (with_marks (take n marks) (map v (take n xs))) → new ≡ old ++ cond m (f (v x)) []
    → new ≡ start ++ flat_map f (with_marks (take (n + 1) marks) (map v (take (n + 1) xs)))
marked_made v f marks xs n m x start old new short within mark is before after =
    let more = made_more v f marks xs n m x short within mark is in
    let one : n + 1 ≡ suc n = omega arith in
    after ∙ ap (λ l. l ++ cond m (f (v x)) []) before
    ∙ append_assoc start (flat_map f (with_marks (take n marks) (map v (take n xs)))) (cond m (f (v x)) [])
    ∙ ap (λ l. start ++ l) (sym more ∙ ap (λ k. flat_map f (with_marks (take k marks) (map v (take k xs)))) (sym one))

-- at the end of the shorter list, all elements with marks are included
pub marked_all : {X Y : Type 0} (v : X → Y) (marks : List Bool) (xs : List X) (n : ℕ)
    → n ≡ min (length xs) (length marks) → with_marks (take n marks) (map v (take n xs)) ≡ with_marks marks (map v xs)
marked_all v [] xs zero is = refl
marked_all v [] [] (suc n) is = refl
marked_all v [] (x ∷ xs) (suc n) is = refl
marked_all v (b ∷ marks) [] zero is = refl
marked_all v (b ∷ marks) [] (suc n) is = refl
marked_all v (b ∷ marks) (x ∷ xs) zero is = absurd (omega (arith, is))
marked_all v (true ∷ marks) (x ∷ xs) (suc n) is = ap (λ l. v x ∷ l) (marked_all v marks xs n (omega (arith, is)))
marked_all v (false ∷ marks) (x ∷ xs) (suc n) is = marked_all v marks xs n (omega (arith, is))

-- a fact that holds for each image holds for one
pub all_at : {X Y : Type 0} (P : Y → Type 0) (v : X → Y) (xs : List X) (n : ℕ) (x : X) → n < length xs
    → get_or xs n x ≡ x → AllByRecursion P (map v xs) → P (v x)
all_at P v [] n x short is all = absurd (omega (arith, short))
all_at P v (y ∷ xs) zero x short is all = subst (λ z. P (v z)) is all.0
all_at P v (y ∷ xs) (suc n) x short is all = all_at P v xs n x (omega (arith, short)) is all.1

-- a list with one more element has one that passes a test exactly if this element passes or the list has one that passes
pub any_push : {X : Type 0} (test : X → Bool) (xs : List X) (x : X) → list_any test (xs ++ x ∷ []) ≡ cond (test x) true (list_any test xs)
any_push test [] x = of (test x) where
  of : (b : Bool) → b || false ≡ cond b true false
  of true = refl
  of false = refl
any_push test (y ∷ xs) x = ap (λ b. test y || b) (any_push test xs x) ∙ of (test y) (test x) (list_any test xs) where
  of : (a b c : Bool) → a || cond b true c ≡ cond b true (a || c)
  of true true c = refl
  of true false c = refl
  of false true c = refl
  of false false c = refl

-- some image of the elements up to an index passes a test exactly if that of the element at the index passes, or an earlier one does
pub any_more : {X Y : Type 0} (v : X → Y) (test : Y → Bool) (xs : List X) (i : ℕ) (d : X) → i < length xs
    → list_any test (map v (take (i + 1) xs)) ≡ cond (test (v (get_or xs i d))) true (list_any test (map v (take i xs)))
any_more v test xs i d within =
    ap (λ l. list_any test (map v l)) (take_more xs i d within)
    ∙ ap (list_any test) (map-append v (take i xs) (get_or xs i d ∷ []))
    ∙ any_push test (map v (take i xs)) (v (get_or xs i d))

-- if the image of an element of a list passes a test, the images of the list have one that passes
pub any_at : {X Y : Type 0} (v : X → Y) (test : Y → Bool) (xs : List X) (i : ℕ) (d : X) → i < length xs
    → test (v (get_or xs i d)) ≡ true → list_any test (map v xs) ≡ true
any_at v test [] i d within passes = absurd (omega (arith, within))
any_at v test (x ∷ xs) zero d within passes = ap (λ b. b || list_any test (map v xs)) passes
any_at v test (x ∷ xs) (suc i) d within passes =
    ap (λ b. test (v x) || b) (any_at v test xs i d (omega (arith, within)) passes) ∙ or-true (test (v x))

-- the output for the first elements and the next one is that for the first elements, followed by that for the next one
pub made_of_more : {X Y A : Type 0} (v : X → Y) (f : Y → List A) (xs : List X) (i : ℕ) (x : X) → i < length xs
    → get_or xs i x ≡ x → flat_map f (map v (take (i + 1) xs)) ≡ flat_map f (map v (take i xs)) ++ f (v x)
made_of_more v f xs i x within is =
    ap (λ l. flat_map f (map v l)) (take_more xs i x within ∙ ap (λ y. take i xs ++ y ∷ []) is)
    ∙ ap (flat_map f) (map-append v (take i xs) (x ∷ []))
    ∙ flat_map-append f (map v (take i xs)) (v x ∷ []) ∙ ap (λ l. flat_map f (map v (take i xs)) ++ l) (append-nil (f (v x)))

-- the output for the first `i + 1` elements is that for the first `i`, followed by that for the element at `i`
pub made_at : {X Y A : Type 0} (v : X → Y) (f : Y → List A) (xs : List X) (i : ℕ) (d : X) → i < length xs
    → flat_map f (map v (take (i + 1) xs)) ≡ flat_map f (map v (take i xs)) ++ f (v (get_or xs i d))
made_at v f xs i d within =
    ap (λ l. flat_map f (map v l)) (take_more xs i d within)
    ∙ ap (flat_map f) (map-append v (take i xs) (get_or xs i d ∷ []))
    ∙ flat_map-append f (map v (take i xs)) (v (get_or xs i d) ∷ [])
    ∙ ap (λ l. flat_map f (map v (take i xs)) ++ l) (append-nil (f (v (get_or xs i d))))

-- ---- marks

-- if an index without a mark gets one, the number of indices without a mark falls by one
pub unmarked_less : (marks : List Bool) (r : ℕ) → r < length marks → get_or marks r false ≡ false
    → unmarked_count (set marks r true) + 1 ≡ unmarked_count marks
unmarked_less marks r within h =
    let e = sum_by-set (λ b. cond (not b) 1 0) marks r true false within in omega (arith, e, ap (λ (b : Bool). cond {A = ℕ} (not b) 1 0) h)

-- after an index gets a mark, it has a mark, and every other index is unchanged
pub set_decides : (marks : List Bool) (index p : ℕ) → index < length marks
    → ((p ≡ index) × IsMarked (set marks index true) p)
    ⊎ ((p ≢ index) × (get_or (set marks index true) p false ≡ get_or marks p false))
set_decides marks index p within =
    elim (eqb_tells p index) [
      | inl t ↦ inl (t.1, rw t.1 (get_or-set_same marks index true false within))
      | inr t ↦ inr (t.1, get_or-set_other marks index p true false t.1)
    ]

-- if an index gets a mark, no other index loses its mark
pub mark_kept : (marks : List Bool) (index r : ℕ) → index < length marks → IsMarked marks r → IsMarked (set marks index true) r
mark_kept marks index r within h = elim (set_decides marks index r within) [ inl t ↦ t.1 | inr t ↦ t.1 ∙ h ]

pub none_marked : (n p : ℕ) → IsMarked (replicate n false) p → ⊥
none_marked n p h = elim (cases_lt p n) [
  | inl t ↦ false≢true (sym (get_or-replicate n p false false t) ∙ h)
  | inr t ↦ false≢true (sym (get_or_past (replicate n false) p false (omega (arith, t, length-replicate n false))) ∙ h)
]

pub marked_below : (marks : List Bool) (p : ℕ) → IsMarked marks p → p < length marks
marked_below marks p h =
    elim (cases_lt p (length marks))
    [ inl t ↦ omega arith | inr t ↦ absurd (false≢true (sym (get_or_past marks p false t) ∙ h)) ]
