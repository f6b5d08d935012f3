-- Expansions of pieces, by a stack of the pieces that are still to expand.
use Rattle.std.proofs.Common.{◌≡◌, ◌⊎◌, inl, inr, ◌+◌, ◌-◌, ℕ, zero, suc, ◌<◌, ◌≤◌, false, List, [], ◌∷◌, ◌++◌, length, get_or, map, reverse, refl, sym, ap, ◌∙◌, subst, arith, Option, Some, None}
use Rattle.std.specs.Prelude.{IfSome, String}
use Rattle.std.specs.BTreeMap.{BTreeMap}
use Rattle.std.specs.Global.{Global, Vec}
use Rattle.std.specs.List.{AllByRecursion, flat_map, list_any}
use Rattle.std.proofs.lemmas.Bool.{cases_lt}
use Rattle.std.proofs.lemmas.Grind.{flat_map-append}
use Rattle.std.proofs.lemmas.List.{get_or-map, get_or_append_left, get_or-append_right, length-append, map-append, length-map, reverse-append, reverse-reverse}
use Rattle.bib_text.proofs.ListFacts.{all_append, all_weaker}
use Rattle.bib_syntax.specs.Reading.{Piece, FieldReading}
use Rattle.bib_syntax.specs.Views.{field_of, piece_of}
use Rattle.bib_syntax.specs.declared.raw.Pair.{Pair}
use Rattle.edit_strings.specs.Expanded.{Index, WritesOut, elements, elements_at, index_before, is_early, is_early_use, name_at, piece_index}
use Rattle.edit_strings.specs.Expanded.{WritesOut as writes}
use Rattle.edit_strings.specs.Tables.{AreIndices, AreOrdered, AreRows, IndexedPiece, IsBelow, IsIndexBelow, all_visits, lowercase_index_in, indexed_back, indexed_of, row_at, rows_of, staying, visits, with_index}
use Rattle.edit_strings.specs.Tables.IndexedPiece.{indexed}
use Rattle.edit_strings.specs.declared.written.Indexed.{Indexed}
use Rattle.edit_strings.proofs.ElementFacts.{IsSome}
use Rattle.edit_strings.proofs.IndexFacts.{before_below, piece_below}

-- ---- lists

pub staying_append : (xs ys : List (Option Piece)) → staying (xs ++ ys) ≡ staying xs ++ staying ys
staying_append [] ys = refl
staying_append (None ∷ xs) ys = staying_append xs ys
staying_append (Some p ∷ xs) ys = ap (λ l. p ∷ l) (staying_append xs ys)

flat_map_same : {A B : Type 0} (P : A → Type 0) (f g : A → List B) → ((x : A) → P x → f x ≡ g x) → (xs : List A)
    → AllByRecursion P xs → flat_map f xs ≡ flat_map g xs
flat_map_same P f g same [] all = refl
flat_map_same P f g same (x ∷ xs) all =
    ap (λ l. l ++ flat_map f xs) (same x all.0) ∙ ap (λ l. g x ++ l) (flat_map_same P f g same xs all.1)

below_weaker : (m n : ℕ) → m ≤ n → (x : IndexedPiece) → IsIndexBelow m x → IsIndexBelow n x
below_weaker m n le (indexed p None) below = tt
below_weaker m n le (indexed p (Some i)) below = omega arith

-- if each index of a name is less than a number, so is each index of a piece
pub indexed_below : (size : ℕ) (index : Index) → IsBelow size index → (ps : List Piece)
    → AllByRecursion (IsIndexBelow size) (map (with_index index) ps)
indexed_below size index below [] = tt
indexed_below size index below (p ∷ ps) = (piece_below size index p below, indexed_below size index below ps)

pub rows_ordered : (definitions : List FieldReading) (rows : List (List IndexedPiece)) → AreRows definitions (length definitions) rows
    → AreOrdered rows
rows_ordered definitions rows known i within =
    subst (AllByRecursion (IsIndexBelow i)) (sym (known.each i (omega (arith, known.as_many))))
    (indexed_below i (index_before definitions i) (before_below definitions i) (elements_at definitions i))

-- ---- lists of the code

map-reversed : {A B : Type 0} (f : A → B) (xs : List A) → map f (reverse xs) ≡ reverse (map f xs)
map-reversed f [] = refl
map-reversed f (x ∷ xs) =
    ap (map f) (reverse-append (x ∷ []) xs) ∙ map-append f (reverse xs) (x ∷ []) ∙ ap (λ l. l ++ f x ∷ []) (map-reversed f xs)
    ∙ sym (reverse-append (f x ∷ []) (map f xs))

pub back_reversed : (items : List Indexed) → indexed_back (reverse items) ≡ map indexed_of items
back_reversed items = ap reverse (map-reversed indexed_of items) ∙ reverse-reverse (map indexed_of items)

-- the pieces of the definition at an index
pub elements_of_pair : (xs : List Pair) (i : ℕ) (x : Pair) → i < length xs → x ≡ get_or xs i x
    → elements_at (map field_of xs) i ≡ map piece_of x.value.v.items
elements_of_pair xs i x within is =
    get_or-map elements (map field_of xs) i (field_of x) [] (omega (arith, length-map xs field_of))
    ∙ ap elements (get_or-map field_of xs i x (field_of x) within) ∙ ap (λ (y : Pair). elements (field_of y)) (sym is)

-- the name of the definition at an index
name_of_pair : (xs : List Pair) (i : ℕ) (x : Pair) → i < length xs → x ≡ get_or xs i x → name_at (map field_of xs) i ≡ x.key.v.now
name_of_pair xs i x within is =
    get_or-map (λ f. f.name.text) (map field_of xs) i (field_of x) [] (omega (arith, length-map xs field_of))
    ∙ ap (λ (f : FieldReading). f.name.text) (get_or-map field_of xs i x (field_of x) within)
    ∙ ap (λ (y : Pair). y.key.v.now) (sym is)

-- by the indices of two maps, a definition uses its own name, or a name before its definition, exactly if `is_early` says so
pub early_is : (xs : List Pair) (i : ℕ) (x : Pair) → i < length xs → x ≡ get_or xs i x → (all earlier : BTreeMap (String Global) ℕ)
    → AreIndices all (map field_of xs) (length xs) → AreIndices earlier (map field_of xs) i
    → list_any (is_early_use x.key.v.now (lowercase_index_in all) (lowercase_index_in earlier)) (map piece_of x.value.v.items)
    ≡ is_early (map field_of xs) i
early_is xs i x within is all earlier whole before =
    let defined : List FieldReading = map field_of xs in
    let pieces : List Piece = map piece_of x.value.v.items in
    let own : List ℕ = x.key.v.now in
    let last : lowercase_index_in all ≡ index_before defined (length xs) = λ k name. whole name k in
    let first : lowercase_index_in earlier ≡ index_before defined i = λ k name. before name k in
    ap (λ ix. list_any (is_early_use own ix (lowercase_index_in earlier)) pieces) last
    ∙ ap (λ n. list_any (is_early_use own (index_before defined n) (lowercase_index_in earlier)) pieces) (sym (length-map xs field_of))
    ∙ ap (λ ix. list_any (is_early_use own (index_before defined (length defined)) ix) pieces) first
    ∙ ap (λ name. list_any (is_early_use name (index_before defined (length defined)) (index_before defined i)) pieces)
    (sym (name_of_pair xs i x within is))
    ∙ ap (list_any (is_early_use (name_at defined i) (index_before defined (length defined)) (index_before defined i)))
    (sym (elements_of_pair xs i x within is))

-- the rows of some definitions and the row of the next one are the rows of one definition more
pub row_push : (definitions : List FieldReading) (n : ℕ) (rows : List (List IndexedPiece)) (row : List IndexedPiece)
    → AreRows definitions n rows → row ≡ row_at definitions n → AreRows definitions (n + 1) (rows ++ row ∷ [])
row_push definitions n rows row known is = record {
  as_many = omega (arith, length-append rows (row ∷ []), known.as_many);
  each = λ i less. by_case i (cases_lt i n) less;
}
  where
    by_case : (i : ℕ) → (i < n) ⊎ (n ≤ i) → i < n + 1 → get_or (rows ++ row ∷ []) i [] ≡ row_at definitions i
    by_case i (inl below) less = get_or_append_left rows (row ∷ []) [] i (omega (arith, known.as_many)) ∙ known.each i below
    by_case i (inr past) less =
        let at : n ≡ i = omega arith in
        let first : i - n ≡ 0 = omega arith in
        get_or-append_right rows (row ∷ []) n i [] known.as_many past ∙ ap (λ k. get_or (row ∷ []) k []) first ∙ is
        ∙ ap (row_at definitions) at

-- if no definition below an index has an early use, nor has the one there, none below the next index has
pub none_more : (definitions : List FieldReading) (n : ℕ) → ((i : ℕ) → i < n → is_early definitions i ≡ false)
    → is_early definitions n ≡ false → (i : ℕ) → i < n + 1 → is_early definitions i ≡ false
none_more definitions n none last i less = elim (cases_lt i n) [
  | inl below ↦ none i below
  | inr past ↦ let same : i ≡ n = omega arith in ap (is_early definitions) same ∙ last
]

-- ---- the stack

pub back_push : (rest : List Indexed) (x : Indexed) → indexed_back (rest ++ x ∷ []) ≡ indexed_of x ∷ indexed_back rest
back_push rest x = ap reverse (map-append indexed_of rest (x ∷ [])) ∙ reverse-append (map indexed_of rest) (indexed_of x ∷ [])

pub back_append : (rest row : List Indexed) → indexed_back (rest ++ row) ≡ indexed_back row ++ indexed_back rest
back_append rest row = ap reverse (map-append indexed_of rest row) ∙ reverse-append (map indexed_of rest) (map indexed_of row)

module _ (rows : List (List IndexedPiece)) (ordered : AreOrdered rows) where
  -- a piece whose index is less than `n` has the same visits to the depth `suc n` and to the next depth
  stable : (n : ℕ) → n ≤ length rows → (x : IndexedPiece) → IsIndexBelow n x → visits rows (suc n) x ≡ visits rows (suc (suc n)) x
  stable n le (indexed p None) below = refl
  stable zero le (indexed p (Some i)) below = absurd (omega arith)
  stable (suc n) le (indexed p (Some i)) below =
      ap (λ l. None ∷ l)
      (flat_map_same (IsIndexBelow n) (visits rows (suc n)) (visits rows (suc (suc n))) (stable n (omega arith)) (get_or rows i [])
      (all_weaker (IsIndexBelow i) (IsIndexBelow n) (below_weaker i n (omega arith)) (get_or rows i []) (ordered i (omega arith))))

  deep : (n i : ℕ) → n ≤ length rows → i < n
      → flat_map (visits rows n) (get_or rows i []) ≡ flat_map (visits rows (suc n)) (get_or rows i [])
  deep zero i le less = absurd (omega arith)
  deep (suc n) i le less =
      flat_map_same (IsIndexBelow n) (visits rows (suc n)) (visits rows (suc (suc n))) (stable n (omega arith)) (get_or rows i [])
      (all_weaker (IsIndexBelow i) (IsIndexBelow n) (below_weaker i n (omega arith)) (get_or rows i []) (ordered i (omega arith)))

  -- the visits of a stack whose top stays
  pub visits_stay : (rest : List Indexed) (x : Indexed) (p : Piece) → indexed_of x ≡ indexed p None
      → all_visits rows (indexed_back (rest ++ x ∷ [])) ≡ Some p ∷ all_visits rows (indexed_back rest)
  visits_stay rest x p is = ap (all_visits rows) (back_push rest x ∙ ap (λ y. y ∷ indexed_back rest) is)

  -- the visits of a stack whose top is replaced by the row of its definition
  pub visits_go : (rest row : List Indexed) (x : Indexed) (p : Piece) (i : ℕ) → indexed_of x ≡ indexed p (Some i) → i < length rows
      → indexed_back row ≡ get_or rows i []
      → all_visits rows (indexed_back (rest ++ x ∷ [])) ≡ None ∷ all_visits rows (indexed_back (rest ++ row))
  visits_go rest row x p i is within here =
      let depth : ℕ = suc (length rows) in
      ap (all_visits rows) (back_push rest x ∙ ap (λ y. y ∷ indexed_back rest) is)
      ∙ ap (λ l. None ∷ (l ++ all_visits rows (indexed_back rest)))
      (deep (length rows) i (omega arith) within ∙ ap (flat_map (visits rows depth)) (sym here))
      ∙ ap (λ l. None ∷ l)
      (sym (flat_map-append (visits rows depth) (indexed_back row) (indexed_back rest))
      ∙ ap (all_visits rows) (sym (back_append rest row)))

-- a name on top of the stack is replaced by the row of its definition: one visit less is left
pub top_gone : (rows : List (Vec Indexed)) → AreOrdered (rows_of rows) → (stack rest now : List Indexed) (x : Indexed) (row : Vec Indexed)
    (i : ℕ) → stack ≡ rest ++ x ∷ [] → x.definition ≡ Some i → row ≡ get_or rows i row → now ≡ rest ++ row.items
    → AllByRecursion (IsIndexBelow (length rows)) (indexed_back stack)
    → (all_visits (rows_of rows) (indexed_back stack) ≡ None ∷ all_visits (rows_of rows) (indexed_back now))
    × AllByRecursion (IsIndexBelow (length rows)) (indexed_back now)
top_gone rows ordered stack rest now x row i stack_is is row_is now_is below =
    let size : length (rows_of rows) ≡ length rows = length-map rows (λ r. indexed_back r.items) in
    let parts = subst (AllByRecursion (IsIndexBelow (length rows))) (ap indexed_back stack_is ∙ back_push rest x) below in
    let within : i < length rows = subst (λ o. IfSome o (λ j. j < length rows)) is parts.0 in
    let here : indexed_back row.items ≡ get_or (rows_of rows) i [] =
    sym (get_or-map (λ r. indexed_back r.items) rows i row [] within ∙ ap (λ (r : Vec Indexed). indexed_back r.items) (sym row_is)) in
    let own = subst (AllByRecursion (IsIndexBelow i)) (sym here) (ordered i (omega arith)) in (
      ap (λ l. all_visits (rows_of rows) (indexed_back l)) stack_is
          ∙ visits_go (rows_of rows) ordered rest row.items x (piece_of x.piece.now) i (ap (indexed (piece_of x.piece.now)) is)
          (omega arith)
          here
          ∙ ap (λ l. None ∷ all_visits (rows_of rows) (indexed_back l)) (sym now_is),
      subst (AllByRecursion (IsIndexBelow (length rows))) (sym (ap indexed_back now_is ∙ back_append rest row.items))
          (all_append (IsIndexBelow (length rows)) (indexed_back row.items) (indexed_back rest)
          (all_weaker (IsIndexBelow i) (IsIndexBelow (length rows)) (below_weaker i (length rows) (omega arith))
          (indexed_back row.items) own)
          parts.1),
    )

-- ---- expansions

module _ (definitions : List FieldReading) (rows : List (List IndexedPiece)) (known : AreRows definitions (length definitions) rows) where
  -- the expansion of pieces after the first `count` definitions, down to a depth
  abbrev down : ℕ → ℕ → List Piece → List Piece
  down depth count ps = staying (flat_map (visits rows depth) (map (with_index (index_before definitions count)) ps))

  step : (n : ℕ) → ((i : ℕ) → i < n → i ≤ length definitions → (ps : List Piece) → WritesOut definitions i ps (down n i ps))
      → (count : ℕ) → count ≤ n → count ≤ length definitions → (ps : List Piece) → WritesOut definitions count ps (down (suc n) count ps)
  step n earlier count le within [] = writes.none
  step n earlier count le within (p ∷ ps) =
      by_case (piece_index (index_before definitions count) p) refl
      (piece_below count (index_before definitions count) p (before_below definitions count)) (step n earlier count le within ps)
    where
      by_case : (o : Option ℕ) → piece_index (index_before definitions count) p ≡ o → IfSome o (λ i. i < count)
          → WritesOut definitions count ps (down (suc n) count ps)
          → WritesOut definitions count (p ∷ ps)
          (staying
          (visits rows (suc n) (indexed p o) ++ flat_map (visits rows (suc n)) (map (with_index (index_before definitions count)) ps)))
      by_case None is below others = writes.itself is others
      by_case (Some i) is below others =
          let row = known.each i (omega arith) in
          let inner : List (Option Piece) = flat_map (visits rows n) (get_or rows i []) in
          let rest : List (Option Piece) = flat_map (visits rows (suc n)) (map (with_index (index_before definitions count)) ps) in
          subst (WritesOut definitions count (p ∷ ps)) (sym (staying_append inner rest))
          (writes.defined is
          (subst (λ l. WritesOut definitions i (elements_at definitions i) (staying (flat_map (visits rows n) l))) (sym row)
          (earlier i (omega arith) (omega arith) (elements_at definitions i))) others)

  writes_down : (n count : ℕ) → count ≤ n → count ≤ length definitions → (ps : List Piece)
      → WritesOut definitions count ps (down (suc n) count ps)
  writes_down zero count le within ps = step zero (λ i less. absurd (omega arith)) count le within ps
  writes_down (suc n) count le within ps = step (suc n) (λ i less inside qs. writes_down n i (omega arith) inside qs) count le within ps

  -- the expansion by the rows of the definitions is the expansion of the pieces
  pub expanded_writes : (count : ℕ) → count ≤ length definitions → (ps : List Piece)
      → WritesOut definitions count ps (down (suc (length rows)) count ps)
  expanded_writes count within ps = writes_down (length rows) count (omega (arith, known.as_many)) within ps

-- ---- if all pieces have a property, so do the pieces of their expansions

pub elements_all : (P : Piece → Type 0) (definitions : List FieldReading) (i : ℕ)
    → AllByRecursion (λ f. AllByRecursion P (elements f)) definitions → AllByRecursion P (elements_at definitions i)
elements_all P [] i all = tt
elements_all P (f ∷ fs) zero all = all.0
elements_all P (f ∷ fs) (suc i) all = elements_all P fs i all.1

pub written_all : (P : Piece → Type 0) (definitions : List FieldReading) {count : ℕ} {ps out : List Piece}
    → AllByRecursion (λ f. AllByRecursion P (elements f)) definitions → AllByRecursion P ps
    → WritesOut definitions count ps out → AllByRecursion P out
written_all P definitions each all writes.none = tt
written_all P definitions each all (writes.itself is rest) = (all.0, written_all P definitions each all.1 rest)
written_all P definitions each all (writes.defined {index = i} {first = first} {more = more} is inner rest) =
    all_append P first more (written_all P definitions each (elements_all P definitions i each) inner)
    (written_all P definitions each all.1 rest)

-- if each definition has a piece, the expansion of at least one piece has one too
pub written_some : (definitions : List FieldReading) {count : ℕ} {ps out : List Piece} → count ≤ length definitions
    → AllByRecursion (λ f. IsSome (elements f)) definitions → IsSome ps → WritesOut definitions count ps out → IsSome out
written_some definitions within each some writes.none = some
written_some definitions within each some (writes.itself is rest) = tt
written_some definitions {count} within each some (writes.defined {piece = p} {index = i} {first = first} {more = more} is inner rest) =
    let below : i < count = subst (λ o. IfSome o (λ j. j < count)) is
    (piece_below count (index_before definitions count) p (before_below definitions count)) in
    some_append first more
    (written_some definitions (omega arith) each (at_index definitions i each (omega arith)) inner)
  where
    at_index : (fs : List FieldReading) (i : ℕ) → AllByRecursion (λ f. IsSome (elements f)) fs → i < length fs → IsSome (elements_at fs i)
    at_index [] i all within = absurd (omega arith)
    at_index (f ∷ fs) zero all within = all.0
    at_index (f ∷ fs) (suc i) all within = at_index fs i all.1 (omega arith)

    some_append : (xs ys : List Piece) → IsSome xs → IsSome (xs ++ ys)
    some_append [] ys some = absurd some
    some_append (x ∷ xs) ys some = tt
