-- Fields in an order of names.
use Rattle.std.proofs.Common.{◌≡◌, ℕ, Bool, true, false, cond, List, [], ◌∷◌, ◌++◌, ◌+◌, fold, length, refl, sym, ap, ◌∙◌, arith, length-append}
use Rattle.std.specs.Prelude.{◌&&◌, ◌||◌, max, not, if◌then◌else◌}
use Rattle.std.specs.List.{AllByRecursion, AllZip, filter}
use Rattle.std.specs.Str.{chars}
use Rattle.std.proofs.lemmas.List.{append-nil}
use Rattle.std.proofs.lemmas.List.Elements.{filter-append}
use Rattle.std.proofs.lemmas.List.Folds.{list_any-append}
use Rattle.bib_syntax.specs.Reading.{FieldReading}
use Rattle.bib_text.proofs.ListFacts.{all_append, all_zip_append}
use Rattle.std.proofs.Math.Bool.{or-false}
use Rattle.std.proofs.lemmas.Bool.{not-true}
use Rattle.edit_format.specs.Formatted.{last_comma, padded_width}
use Rattle.edit_entries.specs.Documents.{has_name}
use Rattle.edit_format.specs.Ordered.{in_order}
use Rattle.edit_format.specs.Unlisted.{has_name_first, has_one_of, unlisted}
use Rattle.edit_format.specs.declared.style.Style.{Style}

-- ---- items that pass a test

pub all_filter : {X : Type 0} (P : X → Type 0) (p : X → Bool) (xs : List X) → AllByRecursion P xs → AllByRecursion P (filter p xs)
all_filter P p [] all = _
all_filter P p (x ∷ xs) all = by_test (p x) (all_filter P p xs all.1)
  where
    by_test : (b : Bool) → AllByRecursion P (filter p xs) → AllByRecursion P (cond b (x ∷ filter p xs) (filter p xs))
    by_test true others = (all.0, others)
    by_test false others = others

passing : {X : Type 0} (p : X → Bool) (xs : List X) → AllByRecursion (λ x. p x ≡ true) (filter p xs)
passing p [] = _
passing p (x ∷ xs) = by_test (p x) refl (passing p xs)
  where
    by_test : (b : Bool) → p x ≡ b → AllByRecursion (λ x. p x ≡ true) (filter p xs)
        → AllByRecursion (λ x. p x ≡ true) (cond b (x ∷ filter p xs) (filter p xs))
    by_test true is others = (is, others)
    by_test false is others = others

all_pass : {X : Type 0} (p : X → Bool) (xs : List X) → AllByRecursion (λ x. p x ≡ true) xs → filter p xs ≡ xs
all_pass p [] all = refl
all_pass p (x ∷ xs) all = ap (λ b. cond b (x ∷ filter p xs) (filter p xs)) all.0 ∙ ap (λ ys. x ∷ ys) (all_pass p xs all.1)

none_pass : {X : Type 0} (p : X → Bool) (xs : List X) → AllByRecursion (λ x. p x ≡ false) xs → filter p xs ≡ []
none_pass p [] all = refl
none_pass p (x ∷ xs) all = ap (λ b. cond b (x ∷ filter p xs) (filter p xs)) all.0 ∙ none_pass p xs all.1

turned : {X : Type 0} (p : X → Bool) (b : Bool) (xs : List X) → AllByRecursion (λ x. p x ≡ b) xs
    → AllByRecursion (λ x. not (p x) ≡ not b) xs
turned p b [] all = _
turned p b (x ∷ xs) all = (ap not all.0, turned p b xs all.1)

unturned : {X : Type 0} (p : X → Bool) (xs : List X) → AllByRecursion (λ x. not (p x) ≡ true) xs → AllByRecursion (λ x. p x ≡ false) xs
unturned p [] all = _
unturned p (x ∷ xs) all = (not-true (p x) all.0, unturned p xs all.1)

zip_filter : {X : Type 0} (R : X → X → Type 0) (p : X → Bool) → ((x y : X) → R x y → p x ≡ p y) → (xs ys : List X)
    → AllZip R xs ys → AllZip R (filter p xs) (filter p ys)
zip_filter R p same [] [] all = all
zip_filter R p same [] (y ∷ ys) all = absurd all
zip_filter R p same (x ∷ xs) [] all = absurd all
zip_filter R p same (x ∷ xs) (y ∷ ys) all = by_test (p x) (p y) (same x y all.0) (zip_filter R p same xs ys all.1)
  where
    by_test : (b c : Bool) → b ≡ c → AllZip R (filter p xs) (filter p ys)
        → AllZip R (cond b (x ∷ filter p xs) (filter p xs)) (cond c (y ∷ filter p ys) (filter p ys))
    by_test true true is others = (all.0, others)
    by_test false false is others = others
    by_test true false is others = absurd (cc)
    by_test false true is others = absurd (cc)

-- ---- fields in an order

-- the fields that don't have this name
abbrev others_than : List ℕ → List FieldReading → List FieldReading
others_than name fs = filter (λ f. not (has_name name f)) fs

pub in_order_all : (P : FieldReading → Type 0) (names : List (List ℕ)) (fs : List FieldReading) → AllByRecursion P fs
    → AllByRecursion P (in_order names fs)
in_order_all P [] fs all = all
in_order_all P (n ∷ ns) fs all =
    all_append P (filter (has_name n) fs) (in_order ns (others_than n fs)) (all_filter P (has_name n) fs all)
    (in_order_all P ns (others_than n fs) (all_filter P (λ f. not (has_name n f)) fs all))

-- ordering fields again doesn't change their order
pub in_order_twice : (names : List (List ℕ)) (fs : List FieldReading) → in_order names (in_order names fs) ≡ in_order names fs
in_order_twice [] fs = refl
in_order_twice (n ∷ ns) fs =
    let named = filter (has_name n) fs in
    let rest = others_than n fs in
    let ordered = in_order ns rest in
    let all_named : AllByRecursion (λ f. has_name n f ≡ true) named = passing (has_name n) fs in
    let all_other : AllByRecursion (λ f. not (has_name n f) ≡ true) ordered =
    in_order_all (λ f. not (has_name n f) ≡ true) ns rest (passing (λ f. not (has_name n f)) fs) in
    let first : filter (has_name n) (named ++ ordered) ≡ named =
    filter-append (has_name n) named ordered ∙ ap (λ t. t ++ filter (has_name n) ordered) (all_pass (has_name n) named all_named)
    ∙ ap (λ t. named ++ t) (none_pass (has_name n) ordered (unturned (has_name n) ordered all_other)) ∙ append-nil named in
    let second : others_than n (named ++ ordered) ≡ ordered =
    filter-append (λ f. not (has_name n f)) named ordered
    ∙ ap (λ t. t ++ others_than n ordered)
    (none_pass (λ f. not (has_name n f)) named (turned (has_name n) true named all_named))
    ∙ all_pass (λ f. not (has_name n f)) ordered all_other in
    ap (λ t. t ++ in_order ns (others_than n (named ++ ordered))) first ∙ ap (λ t. named ++ in_order ns t) second
    ∙ ap (λ t. named ++ t) (in_order_twice ns rest)

-- related lists of fields are still related after ordering, if related fields have the same names
pub in_order_zip : (R : FieldReading → FieldReading → Type 0)
    → ((n : List ℕ) (f g : FieldReading) → R f g → has_name n f ≡ has_name n g)
    → (names : List (List ℕ)) (fs gs : List FieldReading) → AllZip R fs gs
    → AllZip R (in_order names fs) (in_order names gs)
in_order_zip R same [] fs gs all = all
in_order_zip R same (n ∷ ns) fs gs all =
    all_zip_append R (filter (has_name n) fs) (in_order ns (others_than n fs)) (filter (has_name n) gs) (in_order ns (others_than n gs))
    (zip_filter R (has_name n) (same n) fs gs all)
    (in_order_zip R same ns (others_than n fs) (others_than n gs)
    (zip_filter R (λ f. not (has_name n f)) (λ f g is. ap not (same n f g is)) fs gs all))

-- ---- the number of fields

parted_length : {X : Type 0} (p : X → Bool) (xs : List X) → length (filter p xs) + length (filter (λ x. not (p x)) xs) ≡ length xs
parted_length p [] = refl
parted_length p (x ∷ xs) = by_test (p x) (parted_length p xs)
  where
    by_test : (b : Bool) → length (filter p xs) + length (filter (λ x. not (p x)) xs) ≡ length xs
        → length (cond b (x ∷ filter p xs) (filter p xs))
        + length (cond (not b) (x ∷ filter (λ x. not (p x)) xs) (filter (λ x. not (p x)) xs)) ≡ length (x ∷ xs)
    by_test true rest = omega (arith, rest)
    by_test false rest = omega (arith, rest)

-- ---- the longest name

abbrev width_of : FieldReading → ℕ
width_of f = length (chars f.name.text)

abbrev widest : ℕ → List FieldReading → ℕ
widest n fs = fold (λ width f. max (width_of f) width) n fs

max_max : (a b c : ℕ) → max a (max b c) ≡ max b (max a c)
max_max a b c = omega arith

max_same : (a b c : ℕ) → max (max a b) c ≡ max a (max b c)
max_same a b c = omega arith

widest_from : (n : ℕ) (fs : List FieldReading) → widest n fs ≡ max n (widest 0 fs)
widest_from n [] = omega arith
widest_from n (f ∷ fs) =
    let here = widest_from (max (width_of f) n) fs in
    let there = widest_from (max (width_of f) 0) fs in
    omega (arith, here, there)

widest_append : (fs gs : List FieldReading) → widest 0 (fs ++ gs) ≡ max (widest 0 fs) (widest 0 gs)
widest_append [] gs = omega arith
widest_append (f ∷ fs) gs =
    let here = widest_from (max (width_of f) 0) (fs ++ gs) in
    let there = widest_from (max (width_of f) 0) fs in
    let rest = widest_append fs gs in
    omega (arith, here, there, rest)

widest_parted : (p : FieldReading → Bool) (fs : List FieldReading)
    → max (widest 0 (filter p fs)) (widest 0 (filter (λ f. not (p f)) fs)) ≡ widest 0 fs
widest_parted p [] = omega arith
widest_parted p (f ∷ fs) =
    by_test (p f) (widest_parted p fs) (widest_from (max (width_of f) 0) fs)
    (widest_from (max (width_of f) 0) (filter p fs)) (widest_from (max (width_of f) 0) (filter (λ f. not (p f)) fs))
  where
    from : List FieldReading → Type 0
    from gs = widest (max (width_of f) 0) gs ≡ max (max (width_of f) 0) (widest 0 gs)

    by_test : (b : Bool) → max (widest 0 (filter p fs)) (widest 0 (filter (λ f. not (p f)) fs)) ≡ widest 0 fs → from fs
        → from (filter p fs) → from (filter (λ f. not (p f)) fs)
        → max (widest 0 (cond b (f ∷ filter p fs) (filter p fs)))
        (widest 0 (cond (not b) (f ∷ filter (λ f. not (p f)) fs) (filter (λ f. not (p f)) fs)))
        ≡ widest 0 (f ∷ fs)
    by_test true rest all first second = omega (arith, rest, all, first)
    by_test false rest all first second = omega (arith, rest, all, second)

widest_ordered : (names : List (List ℕ)) (fs : List FieldReading) → widest 0 (in_order names fs) ≡ widest 0 fs
widest_ordered [] fs = refl
widest_ordered (n ∷ ns) fs =
    widest_append (filter (has_name n) fs) (in_order ns (others_than n fs))
    ∙ ap (max (widest 0 (filter (has_name n) fs))) (widest_ordered ns (others_than n fs))
    ∙ widest_parted (has_name n) fs

-- the padded width doesn't depend on the order of the fields
pub padded_ordered : (style : Style) (names : List (List ℕ)) (fs : List FieldReading)
    → padded_width style (in_order names fs) ≡ padded_width style fs
padded_ordered style names fs = ap (λ n. if style.aligned then n else 0) (widest_ordered names fs)

-- ordering fields keeps their number
some_pass : (names : List (List ℕ)) (fs : List FieldReading) → length (in_order names fs) ≡ length fs
some_pass [] fs = refl
some_pass (n ∷ ns) fs =
    let parts = length-append (filter (has_name n) fs) (in_order ns (others_than n fs)) in
    let rest = some_pass ns (others_than n fs) in
    let both = parted_length (has_name n) fs in
    omega (arith, parts, rest, both)

-- the last comma doesn't depend on the order of the fields
pub last_ordered : (style : Style) (names : List (List ℕ)) (fs : List FieldReading)
    → last_comma style (in_order names fs) ≡ last_comma style fs
last_ordered style names fs = by_length (in_order names fs) fs (some_pass names fs)
  where
    by_length : (gs fs : List FieldReading) → length gs ≡ length fs → last_comma style gs ≡ last_comma style fs
    by_length [] [] same = refl
    by_length [] (f ∷ fs) same = absurd (omega (arith, same))
    by_length (g ∷ gs) [] same = absurd (omega (arith, same))
    by_length (g ∷ gs) (f ∷ fs) same = refl

-- ---- fields name by name

-- the fields without the names `before` that have a name are those that have it first
named_first : (before : List (List ℕ)) (n : List ℕ) (fs : List FieldReading)
    → filter (has_name n) (unlisted before fs) ≡ filter (has_name_first before n) fs
named_first before n [] = refl
named_first before n (f ∷ fs) = by_tests (has_name n f) refl (has_one_of before f) (named_first before n fs)
  where
    rest : List FieldReading
    rest = unlisted before fs

    firsts : List FieldReading
    firsts = filter (has_name_first before n) fs

    by_tests : (c : Bool) → has_name n f ≡ c → (d : Bool) → filter (has_name n) rest ≡ firsts
        → filter (has_name n) (cond (not d) (f ∷ rest) rest) ≡ cond (has_name n f && not d) (f ∷ firsts) firsts
    by_tests true is false same =
        ap (λ b. cond b (f ∷ filter (has_name n) rest) (filter (has_name n) rest)) is ∙ ap (λ t. f ∷ t) same
        ∙ sym (ap (λ b. cond (b && true) (f ∷ firsts) firsts) is)
    by_tests false is false same =
        ap (λ b. cond b (f ∷ filter (has_name n) rest) (filter (has_name n) rest)) is ∙ same
        ∙ sym (ap (λ b. cond (b && true) (f ∷ firsts) firsts) is)
    by_tests true is true same = same ∙ sym (ap (λ b. cond (b && false) (f ∷ firsts) firsts) is)
    by_tests false is true same = same ∙ sym (ap (λ b. cond (b && false) (f ∷ firsts) firsts) is)

listed_more : (before : List (List ℕ)) (n : List ℕ) (f : FieldReading)
    → has_one_of (before ++ n ∷ []) f ≡ (has_one_of before f || has_name n f)
listed_more before n f =
    list_any-append (λ name. has_name name f) before (n ∷ [])
    ∙ ap (λ b. has_one_of before f || b) (or-false (has_name n f))

-- the fields without the names `before` and without one more name are those without all of these names
neither_named : (before : List (List ℕ)) (n : List ℕ) (fs : List FieldReading)
    → others_than n (unlisted before fs) ≡ unlisted (before ++ n ∷ []) fs
neither_named before n [] = refl
neither_named before n (f ∷ fs) =
    by_tests (has_name n f) refl (has_one_of before f) (neither_named before n fs)
    ∙ ap (λ b. cond (not b) (f ∷ unlisted (before ++ n ∷ []) fs) (unlisted (before ++ n ∷ []) fs))
    (sym (listed_more before n f))
  where
    rest : List FieldReading
    rest = unlisted before fs

    others : List FieldReading
    others = unlisted (before ++ n ∷ []) fs

    by_tests : (c : Bool) → has_name n f ≡ c → (d : Bool) → others_than n rest ≡ others
        → others_than n (cond (not d) (f ∷ rest) rest) ≡ cond (not (d || has_name n f)) (f ∷ others) others
    by_tests true is false same =
        ap (λ b. cond (not b) (f ∷ others_than n rest) (others_than n rest)) is ∙ same
        ∙ sym (ap (λ b. cond (not b) (f ∷ others) others) is)
    by_tests false is false same =
        ap (λ b. cond (not b) (f ∷ others_than n rest) (others_than n rest)) is ∙ ap (λ t. f ∷ t) same
        ∙ sym (ap (λ b. cond (not b) (f ∷ others) others) is)
    by_tests c is true same = same

pub one_name : (before : List (List ℕ)) (n : List ℕ) (ns : List (List ℕ)) (fs : List FieldReading)
    → in_order (n ∷ ns) (unlisted before fs) ≡ filter (has_name_first before n) fs ++ in_order ns (unlisted (before ++ n ∷ []) fs)
one_name before n ns fs =
    ap (λ t. t ++ in_order ns (others_than n (unlisted before fs))) (named_first before n fs)
    ∙ ap (λ t. filter (has_name_first before n) fs ++ in_order ns t) (neither_named before n fs)

pub none_listed : (fs : List FieldReading) → unlisted [] fs ≡ fs
none_listed fs = all_pass (λ f. not (has_one_of [] f)) fs (all fs)
  where
    all : (fs : List FieldReading) → AllByRecursion (λ f. not (has_one_of [] f) ≡ true) fs
    all [] = _
    all (f ∷ fs) = (refl, all fs)
