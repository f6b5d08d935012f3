-- Indices of definitions, and the order of definitions and entries.
use Rattle.std.proofs.Common.{◌≡◌, ℕ, zero, suc, ◌+◌, ◌<◌, ◌≤◌, Bool, true, false, cond, List, [], ◌∷◌, length, get_or, take, map, refl, sym, ap, ◌∙◌, subst, arith, Option, Some, None}
use Rattle.std.specs.Prelude.{IfSome, String, count_by, nat_lt}
use Rattle.std.specs.BTreeMap.{BTreeMap}
use Rattle.std.specs.Global.{Global}
use Rattle.std.proofs.lemmas.Bool.{le-ltb, lt-ltb}
use Rattle.std.proofs.lemmas.List.{take-map}
use Rattle.std.proofs.lemmas.List.Sums.{sum_by-append}
use Rattle.bib_syntax.specs.Reading.{Piece, FieldReading}
use Rattle.bib_syntax.specs.Reading.Piece.{literal, abbreviation}
use Rattle.bib_syntax.specs.Views.{field_of}
use Rattle.bib_syntax.specs.declared.raw.Pair.{Pair}
use Rattle.edit_entries.specs.Documents.{has_name, last_position, or_first}
use Rattle.edit_entries.proofs.PositionFacts.{last_step}
use Rattle.edit_strings.specs.Expanded.{Index, index_before, piece_index}
use Rattle.edit_strings.specs.Tables.{BeginBetween, AreIndices, IsBelow, lowercase_index_in}

-- ---- indices

-- the last index of an item that passes a test is less than the length of the list
pub last_below : {A : Type 0} (test : A → Bool) (xs : List A) → IfSome (last_position test xs) (λ i. i < length xs)
last_below test [] = tt
last_below test (x ∷ xs) = by_case (test x) (last_position test xs) (last_below test xs)
  where
    by_case : (b : Bool) (last : Option ℕ) → IfSome last (λ i. i < length xs) → IfSome (or_first b last) (λ i. i < length (x ∷ xs))
    by_case b (Some i) below = omega arith
    by_case true None below = omega arith
    by_case false None below = tt

some_below : (m n : ℕ) (o : Option ℕ) → m ≤ n → IfSome o (λ i. i < m) → IfSome o (λ i. i < n)
some_below m n None le below = tt
some_below m n (Some i) le below = omega arith

length-taken : {A : Type 0} (n : ℕ) (xs : List A) → length (take n xs) ≤ n
length-taken zero xs = omega arith
length-taken (suc n) [] = omega arith
length-taken (suc n) (x ∷ xs) = omega (arith, length-taken n xs)

-- the index of a name before a definition is less than the definition's
pub before_below : (definitions : List FieldReading) (count : ℕ) → IsBelow count (index_before definitions count)
before_below definitions count name =
    some_below (length (take count definitions)) count (index_before definitions count name) (length-taken count definitions)
    (last_below (has_name name) (take count definitions))

pub piece_below : (size : ℕ) (index : Index) (piece : Piece) → IsBelow size index → IfSome (piece_index index piece) (λ i. i < size)
piece_below size index (literal p) below = tt
piece_below size index (abbreviation p) below = below p.text

-- the indices of a map are those of `index_before`
pub indices_are : (definitions : List FieldReading) (count : ℕ) (indices : BTreeMap (String Global) ℕ)
    → AreIndices indices definitions count
    → lowercase_index_in indices ≡ index_before definitions count
indices_are definitions count indices known = λ k name. known name k

-- the indices of a map are less than each number from the count of the definitions on
pub indices_below : (definitions : List FieldReading) (count size : ℕ) (indices : BTreeMap (String Global) ℕ) → count ≤ size
    → AreIndices indices definitions count → IsBelow size (lowercase_index_in indices)
indices_below definitions count size indices le known name =
    some_below count size (lowercase_index_in indices name) le
    (subst (λ o. IfSome o (λ i. i < count)) (sym (known name)) (before_below definitions count name))

-- the index of a name after one more definition
pub before_step : (xs : List Pair) (i : ℕ) (x : Pair) (name : List ℕ) → i < length xs → x ≡ get_or xs i x
    → index_before (map field_of xs) (i + 1) name
    ≡ cond (has_name name (field_of x)) (Some i) (index_before (map field_of xs) i name)
before_step xs i x name within is =
    ap (last_position (has_name name)) (take-map field_of (i + 1) xs) ∙ last_step field_of (has_name name) xs i x within is
    ∙ ap (λ l. cond (has_name name (field_of x)) (Some i) (last_position (has_name name) l)) (sym (take-map field_of i xs))

-- ---- the definitions before an entry

count_first : {A : Type 0} (p : A → Bool) (x : A) (xs : List A) → count_by p (x ∷ xs) ≡ cond (p x) 1 0 + count_by p xs
count_first p x xs = sum_by-append (λ y. cond (p y) 1 0) (x ∷ []) xs ∙ ap (λ n. n + count_by p xs) (omega arith)

none_before : (start at end : ℕ) (fs : List FieldReading) → BeginBetween at end fs → start ≤ at
    → count_by (λ f. nat_lt f.name.start start) fs ≡ 0
none_before start at end [] between le = refl
none_before start at end (f ∷ fs) between le =
    count_first (λ g. nat_lt g.name.start start) f fs
    ∙ ap (λ b. cond b 1 0 + count_by (λ g. nat_lt g.name.start start) fs) (le-ltb f.name.start start (omega (arith, between.0)))
    ∙ ap (λ m. 0 + m) (none_before start f.name.start end fs between.1 (omega (arith, between.0)))

-- the byte offset of the definition at an index
abbrev pub start_of : List FieldReading → ℕ → ℕ
start_of fs i = get_or (map (λ f. f.name.start) fs) i 0

-- if the first `n` definitions begin before a byte offset and the next one doesn't, `n` definitions begin before it
pub count_is : (start at end : ℕ) (fs : List FieldReading) (n : ℕ) → BeginBetween at end fs → n ≤ length fs
    → ((i : ℕ) → i < n → start_of fs i < start) → (n < length fs → start_of fs n < start → ⊥)
    → count_by (λ f. nat_lt f.name.start start) fs ≡ n
count_is start at end [] zero between within passed stops = refl
count_is start at end [] (suc n) between within passed stops = absurd (omega arith)
count_is start at end (f ∷ fs) zero between within passed stops =
    none_before start f.name.start end (f ∷ fs) (omega arith, between.1) (omega (arith, stops (omega arith)))
count_is start at end (f ∷ fs) (suc n) between within passed stops =
    let more : 1 + n ≡ suc n = omega arith in
    count_first (λ g. nat_lt g.name.start start) f fs
    ∙ ap (λ b. cond b 1 0 + count_by (λ g. nat_lt g.name.start start) fs) (lt-ltb f.name.start start (passed 0 (omega arith)))
    ∙ ap (λ m. 1 + m)
    (count_is start f.name.start end fs n between.1 (omega arith) (λ i less. passed (suc i) (omega arith))
    (λ inside. stops (omega arith))) ∙ more
