-- Facts on lists and options that several crates need.
use Rattle.std.proofs.Common.{◌≡◌, ◌≢◌, ℕ, zero, suc, ◌+◌, ◌-◌, ◌<◌, ◌||◌, ◌⊎◌, inl, inr, Bool, true, false, cond, List, [], ◌∷◌, ◌++◌, drop, get_or, length, map, take, slice_index_or, Option, Some, refl, sym, ap, ◌∙◌, subst, arith, eqb, length-drop, reverse}
use Rattle.std.specs.List.{AllByRecursion, AllZip, Contains, count_by, find, list_all, list_any, prefix_len, remove, starts_with}
use Rattle.std.specs.List.Sorted.{IsSortedBy}
use Rattle.std.specs.Prelude.{slice_get, slice_set}
use Rattle.std.proofs.lemmas.Bool.{and_from, and_parts, or_parts}
use Rattle.std.proofs.lemmas.Bool.Decides.{Decides-eqb}
use Rattle.std.proofs.lemmas.List.{drop_more, get_or-map, length-map, map-append, reverse-append, take_all, take_more}
use Rattle.std.proofs.lemmas.List.Folds.{list_all-append}
use Rattle.std.proofs.lemmas.List.Sums.{sum_by-append}
use Rattle.std.proofs.lemmas.Slice.Eq.{starts_is}

-- the values of equal options are equal
pub some_same : {A : Type 0} {x y : A} → Some x ≡ Some y → x ≡ y
some_same e = cc

-- a property of all elements of two lists is one of all elements of both
pub all_append : {A : Type 0} (P : A → Type 0) (xs ys : List A) → AllByRecursion P xs → AllByRecursion P ys → AllByRecursion P (xs ++ ys)
all_append P [] ys first rest = rest
all_append P (x ∷ xs) ys first rest = (first.0, all_append P xs ys first.1 rest)

-- a property of all elements and of one more is one of all elements with this one
pub all_push : {A : Type 0} (P : A → Type 0) (xs : List A) (x : A) → AllByRecursion P xs → P x → AllByRecursion P (xs ++ x ∷ [])
all_push P [] x all here = (here, tt)
all_push P (y ∷ ys) x all here = (all.0, all_push P ys x all.1 here)

-- a property of all elements is one of all elements of the reversed list
pub all_reverse : {A : Type 0} (P : A → Type 0) (xs : List A) → AllByRecursion P xs → AllByRecursion P (reverse xs)
all_reverse P [] all = tt
all_reverse P (x ∷ xs) all =
    subst (AllByRecursion P) (sym (reverse-append (x ∷ []) xs)) (all_push P (reverse xs) x (all_reverse P xs all.1) all.0)

-- lists that are related element by element have one length
pub all_zip_length : {A B : Type 0} (R : A → B → Type 0) (xs : List A) (ys : List B) → AllZip R xs ys → length xs ≡ length ys
all_zip_length R [] [] all = refl
all_zip_length R [] (y ∷ ys) all = absurd all
all_zip_length R (x ∷ xs) [] all = absurd all
all_zip_length R (x ∷ xs) (y ∷ ys) all = ap suc (all_zip_length R xs ys all.1)

-- if two pairs of lists are related element by element, so are their concatenations
pub all_zip_append : {A B : Type 0} (R : A → B → Type 0) (xs more : List A) (ys others : List B) → AllZip R xs ys
    → AllZip R more others → AllZip R (xs ++ more) (ys ++ others)
all_zip_append R [] more [] others first rest = rest
all_zip_append R [] more (y ∷ ys) others first rest = absurd first
all_zip_append R (x ∷ xs) more [] others first rest = absurd first
all_zip_append R (x ∷ xs) more (y ∷ ys) others first rest = (first.0, all_zip_append R xs more ys others first.1 rest)

-- two lists related element by element stay so after adding related elements at the end
pub all_zip_push : {A B : Type 0} (R : A → B → Type 0) (xs : List A) (ys : List B) (x : A) (y : B) → AllZip R xs ys → R x y
    → AllZip R (xs ++ x ∷ []) (ys ++ y ∷ [])
all_zip_push R xs ys x y all last = all_zip_append R xs (x ∷ []) ys (y ∷ []) all (last, tt)

-- if a test finds an element, some element passes it
pub found_any : {A : Type 0} (test : A → Bool) (xs : List A) (x : A) → find test xs ≡ Some x → list_any test xs ≡ true
found_any test [] x found = cc
found_any {A} test (y ∷ xs) x found = go (test y) (find test xs) found (found_any test xs x) where
  go : (b : Bool) (rest : Option A) → cond b (Some y) rest ≡ Some x → (rest ≡ Some x → list_any test xs ≡ true)
      → (b || list_any test xs) ≡ true
  go true rest is later = refl
  go false rest is later = later is

-- one more element adds 1 to the number of passing elements if it passes the test
pub count_more : {X : Type 0} (p : X → Bool) (xs : List X) (x : X) → count_by p (xs ++ x ∷ []) ≡ count_by p xs + cond (p x) 1 0
count_more p xs x = sum_by-append (λ y. cond (p y) 1 0) xs (x ∷ []) ∙ ap (λ n. count_by p xs + n) (omega arith)

-- if no element passes a test, the number of passing elements is 0
pub count_none : {X : Type 0} (p : X → Bool) (xs : List X) → list_any p xs ≡ false → count_by p xs ≡ 0
count_none p [] none = refl
count_none p (x ∷ xs) none =
    let both = or_parts (p x) (list_any p xs) none in
    let here : ◌≡◌ {A = ℕ} (cond (p x) 1 0) 0 = ap {B = ℕ} (λ b. cond b 1 0) both.0 in
    omega (arith, sum_by-append (λ y. cond (p y) 1 0) (x ∷ []) xs, here, count_none p xs both.1)

-- an empty list contains nothing
pub contains_nothing : {x : ℕ} → Contains [] x → ⊥
contains_nothing among = omega (arith, among.1)

-- an element of a list that begins with x is x or occurs in the rest
pub cons_cases : (x p : ℕ) (xs : List ℕ) → Contains (x ∷ xs) p → (x ≡ p) ⊎ Contains xs p
cons_cases x p xs (zero, within, e) = inl e
cons_cases x p xs (suc k, within, e) = inr (k, omega arith, e)

-- an element of a list also occurs in the list with `x` prepended
pub contains_more : (x p : ℕ) (xs : List ℕ) → Contains xs p → Contains (x ∷ xs) p
contains_more x p xs (k, within, e) = (suc k, omega arith, e)

-- the element after the first part of a list is at the index that is the length of this part
pub get_here : {A : Type 0} (before : List A) (x : A) (rest : List A) → slice_get (before ++ x ∷ rest) (length before) ≡ Some x
get_here [] x rest = refl
get_here (y ∷ ys) x rest = get_here ys x rest

-- a text that begins with a part passes `starts_with`
pub begins : (part text rest : List ℕ) → text ≡ part ++ rest → starts_with eqb text part ≡ true
begins part text rest is = (starts_is Decides-eqb text part (starts_with eqb text part) refl).1 rest is

-- a text that doesn't begin with a part fails `starts_with`
pub begins_not : (part text : List ℕ) → ((rest : List ℕ) → text ≢ part ++ rest) → starts_with eqb text part ≡ false
begins_not part text never = of (starts_with eqb text part) refl where
  of : (b : Bool) → starts_with eqb text part ≡ b → starts_with eqb text part ≡ false
  of true is = absurd (never _ ((starts_is Decides-eqb text part (starts_with eqb text part) refl).0 is))
  of false is = is

-- ---- the element at an index

-- there is an element at each index below the length
pub element_at : {A : Type 0} (xs : List A) (i : ℕ) → i < length xs → (x : A) × (slice_get xs i ≡ Some x)
element_at [] i within = absurd (omega (arith, within))
element_at (x ∷ xs) zero within = (x, refl)
element_at (x ∷ xs) (suc i) within = element_at xs i (omega (arith, within))

-- an element that replaces the one at an index is there
pub get_set : {A : Type 0} (xs : List A) (k : ℕ) (x y : A) → slice_get xs k ≡ Some x → slice_get (slice_set xs k y) k ≡ Some y
get_set [] k x y here = absurd (cc)
get_set (z ∷ zs) zero x y here = refl
get_set (z ∷ zs) (suc k) x y here = get_set zs k x y here

-- taking as many elements as there are from an index on takes all of them
pub take_to_end : {A : Type 0} (xs : List A) (i : ℕ) → take (length xs - i) (drop i xs) ≡ drop i xs
take_to_end xs i = take_all (length xs - i) (drop i xs) (omega (arith, length-drop i xs))

-- the elements from an index on are the element there and those after it
pub drop_is : {A : Type 0} (xs : List A) (i : ℕ) (x : A) → i < length xs → x ≡ get_or xs i x → drop i xs ≡ x ∷ drop (i + 1) xs
drop_is xs i x within is = drop_more xs i x within ∙ ap (λ y. y ∷ drop (i + 1) xs) (sym is)

-- ---- mapped lists

-- the element at an index of a mapped list
pub get_mapped : {A B : Type 0} (f : A → B) (xs : List A) (k : ℕ) (x : A) → slice_get xs k ≡ Some x → slice_get (map f xs) k ≡ Some (f x)
get_mapped f [] k x here = absurd (cc)
get_mapped f (z ∷ zs) zero x here = let same : z ≡ x = cc in ap (λ y. Some (f y)) same
get_mapped f (z ∷ zs) (suc k) x here = get_mapped f zs k x here

-- putting an element at an index and mapping a list can be exchanged
pub map_set : {A B : Type 0} (f : A → B) (xs : List A) (k : ℕ) (y : A) → map f (slice_set xs k y) ≡ slice_set (map f xs) k (f y)
map_set f [] k y = refl
map_set f (x ∷ xs) zero y = refl
map_set f (x ∷ xs) (suc k) y = ap (λ l. f x ∷ l) (map_set f xs k y)

-- removing an element and mapping a list can be exchanged
pub remove_mapped : {A B : Type 0} (f : A → B) (xs : List A) (k : ℕ) → map f (remove xs k) ≡ remove (map f xs) k
remove_mapped f [] zero = refl
remove_mapped f [] (suc k) = refl
remove_mapped f (x ∷ xs) zero = refl
remove_mapped f (x ∷ xs) (suc k) = ap (λ l. f x ∷ l) (remove_mapped f xs k)

-- if `i` is below the length, the first `i + 1` elements, mapped, are the first `i` and the element at `i`, mapped
pub mapped_more : {A B : Type 0} (f : A → B) (xs : List A) (i : ℕ) (x : A) → i < length xs → x ≡ get_or xs i x
    → map f (take (i + 1) xs) ≡ map f (take i xs) ++ f x ∷ []
mapped_more f xs i x within is =
    ap (map f) (take_more xs i x within ∙ ap (λ y. take i xs ++ y ∷ []) (sym is)) ∙ map-append f (take i xs) (x ∷ [])

-- an element of a mapped list passes a test if and only if an element of the list passes it after mapping
pub any_mapped : {A B : Type 0} (f : A → B) (test : B → Bool) (xs : List A) → list_any test (map f xs) ≡ list_any (λ x. test (f x)) xs
any_mapped f test [] = refl
any_mapped f test (x ∷ xs) = ap (λ rest. test (f x) || rest) (any_mapped f test xs)

-- if a list is sorted by the values of a function, the list of these values is sorted
pub sorted_map : {X Y : Type 0} (f : X → Y) (lt : Y → Y → Bool) (xs : List X) → IsSortedBy (λ a b. lt (f a) (f b)) xs
    → IsSortedBy lt (map f xs)
sorted_map f lt [] up k d from within = absurd (omega arith)
sorted_map f lt (x ∷ xs) up k d from within =
    let size : length (map f (x ∷ xs)) ≡ length (x ∷ xs) = length-map (x ∷ xs) f in
    let later = get_or-map f (x ∷ xs) (k + 1) x d (omega arith) in
    let first = get_or-map f (x ∷ xs) k x d (omega arith) in
    ap (λ y. lt y (get_or (map f (x ∷ xs)) k d)) later ∙ ap (lt (f (get_or (x ∷ xs) (k + 1) x))) first ∙ up k x from (omega arith)

-- ---- properties and tests of all elements

-- if one property implies another, the first of all elements implies the second of all
pub all_weaker : {A : Type 0} (P Q : A → Type 0) → ((x : A) → P x → Q x) → (xs : List A) → AllByRecursion P xs → AllByRecursion Q xs
all_weaker P Q weaker [] all = tt
all_weaker P Q weaker (x ∷ xs) all = (weaker x all.0, all_weaker P Q weaker xs all.1)

-- a property of all elements is one of the element that `find` returns
pub found_has : {A : Type 0} (P : A → Type 0) (test : A → Bool) (xs : List A) (x : A) → AllByRecursion P xs → find test xs ≡ Some x → P x
found_has P test [] x all is = absurd (cc)
found_has P test (y ∷ ys) x all is = by_case (test y) (found_has P test ys x all.1) is
  where
    by_case : (b : Bool) → (find test ys ≡ Some x → P x) → cond b (Some y) (find test ys) ≡ Some x → P x
    by_case true later found = let same : y ≡ x = cc in subst P same all.0
    by_case false later found = later found

-- two tests that agree on each value find a passing element in the same lists
pub any_same : {A : Type 0} (f g : A → Bool) → ((x : A) → f x ≡ g x) → (xs : List A) → list_any f xs ≡ list_any g xs
any_same f g same [] = refl
any_same f g same (x ∷ xs) = ap (λ b. b || list_any f xs) (same x) ∙ ap (λ b. g x || b) (any_same f g same xs)

-- elements that pass a test pass a weaker one
pub passed_weaker : (p q : ℕ → Bool) → ((c : ℕ) → p c ≡ true → q c ≡ true) → (cs : List ℕ) → list_all p cs ≡ true → list_all q cs ≡ true
passed_weaker p q each [] all = refl
passed_weaker p q each (c ∷ cs) all =
    let parts = and_parts (p c) (list_all p cs) all in
    and_from _ _ (each c parts.0) (passed_weaker p q each cs parts.1)

-- if all elements of two lists pass a test, so do those of both together
pub passed_append : (p : ℕ → Bool) (xs ys : List ℕ) → list_all p xs ≡ true → list_all p ys ≡ true → list_all p (xs ++ ys) ≡ true
passed_append p xs ys first second = list_all-append p xs ys ∙ and_from _ _ first second

-- a first part whose elements all pass a test adds its length to the length of the passing prefix
pub passed_prefix : (p : ℕ → Bool) (xs rest : List ℕ) → list_all p xs ≡ true → prefix_len p (xs ++ rest) ≡ length xs + prefix_len p rest
passed_prefix p [] rest all = omega arith
passed_prefix p (x ∷ xs) rest all =
    let parts = and_parts (p x) (list_all p xs) all in
    rw (parts.0, passed_prefix p xs rest parts.1) (omega arith)

-- a test of the bytes still to visit is the other test of the bytes after the next one, if this holds for any bytes
pub next_is : (test test' : List ℕ → Bool) (xs : List ℕ) (i : ℕ) {is : Bool} → i < length xs
    → ((bs : List ℕ) → test (slice_index_or xs i 0 ∷ bs) ≡ test' bs) → test (drop i xs) ≡ is
    → test' (drop (i + 1) xs) ≡ is
next_is test test' xs i below step left = sym (step (drop (i + 1) xs)) ∙ ap test (sym (drop_more xs i 0 below)) ∙ left
