-- Facts about definitions of abbreviations.
use Rattle.std.proofs.Common.{◌≡◌, ◌<◌, ◌+◌, ℕ, zero, suc, Bool, true, false, cond, List, [], ◌∷◌, ◌++◌, map, take, length, get_or, Option, Some, None, refl, sym, ap, ap₂, ◌∙◌, subst, arith}
use Rattle.std.specs.Prelude.{MatchBool, bytes_eq, slice_get}
use Rattle.std.specs.Str.{str_to_ascii_lowercase}
use Rattle.std.proofs.lemmas.List.{map-append, take_more}
use Rattle.std.proofs.lemmas.Slice.Eq.{bytes_eq-Decides}
use Rattle.bib_text.proofs.ListFacts.{some_same}
use Rattle.bib_text.specs.declared.spanned.Spanned.{Spanned}
use Rattle.bib_syntax.specs.Grammar.{is_word}
use Rattle.bib_syntax.specs.Reading.{FieldReading, Part, Piece}
use Rattle.bib_syntax.specs.Reading.Piece.{abbreviation, literal}
use Rattle.bib_syntax.specs.Views.{piece_of}
use Rattle.bib_syntax.specs.declared.raw.RawChunk.{RawChunk}
use Rattle.bib_queries.specs.Answers.{piece_text}
use Rattle.edit_entries.specs.Definitions.{AgreesWithLast, AllAgree, ArePiecesSame, is_same_piece}
use Rattle.edit_entries.specs.Documents.{AgreeOnDefinitions, HaveSameValue, has_name, last_position, or_first, placeless_pieces}
use Rattle.edit_entries.specs.Edits.{moved_piece}

-- ---- pieces

abbrev alone : Piece → Piece
alone p = moved_piece (λ at. 0) p

abbrev literal_of : List ℕ → Piece
literal_of text = let p : Part = record { text = text; start = 0; end = 0 } in literal p

abbrev abbreviation_of : List ℕ → Piece
abbreviation_of text = let p : Part = record { text = text; start = 0; end = 0 } in abbreviation p

same_alone : (x y : Piece) → is_same_piece x y ≡ true → alone x ≡ alone y
same_alone (literal p) (literal q) same = ap literal_of ((bytes_eq-Decides p.text q.text).0 same)
same_alone (literal p) (abbreviation q) same = absurd (let clash : true ≡ false = sym same in cc)
same_alone (abbreviation p) (literal q) same = absurd (let clash : true ≡ false = sym same in cc)
same_alone (abbreviation p) (abbreviation q) same = ap abbreviation_of ((bytes_eq-Decides p.text q.text).0 same)

other_alone : (x y : Piece) → is_same_piece x y ≡ false → alone x ≡ alone y → ⊥
other_alone (literal p) (literal q) other same =
    absurd (let clash : true ≡ false = sym ((bytes_eq-Decides p.text q.text).1 (ap piece_text same)) ∙ other in cc)
other_alone (literal p) (abbreviation q) other same = absurd (cc)
other_alone (abbreviation p) (literal q) other same = absurd (cc)
other_alone (abbreviation p) (abbreviation q) other same =
    absurd (let clash : true ≡ false = sym ((bytes_eq-Decides p.text q.text).1 (ap piece_text same)) ∙ other in cc)

pieces_more : (xs : List (Spanned RawChunk)) (i : ℕ) (d : Spanned RawChunk) → i < length xs
    → placeless_pieces (map piece_of (take (i + 1) xs))
    ≡ placeless_pieces (map piece_of (take i xs)) ++ alone (piece_of (get_or xs i d)) ∷ []
pieces_more xs i d within =
    ap (λ l. placeless_pieces (map piece_of l)) (take_more xs i d within)
    ∙ ap placeless_pieces (map-append piece_of (take i xs) (get_or xs i d ∷ []))
    ∙ map-append (moved_piece (λ at. 0)) (map piece_of (take i xs)) (piece_of (get_or xs i d) ∷ [])

-- if two pieces are the same and those before them are, the pieces up to the next index are
pub same_more : (xs ys : List (Spanned RawChunk)) (i : ℕ) (d e : Spanned RawChunk) → i < length xs → i < length ys
    → is_same_piece (piece_of (get_or xs i d)) (piece_of (get_or ys i e)) ≡ true
    → ArePiecesSame (map piece_of (take i xs)) (map piece_of (take i ys))
    → ArePiecesSame (map piece_of (take (i + 1) xs)) (map piece_of (take (i + 1) ys))
same_more xs ys i d e within within' same before =
    pieces_more xs i d within
    ∙ ap₂ (λ l p. l ++ p ∷ []) before (same_alone (piece_of (get_or xs i d)) (piece_of (get_or ys i e)) same)
    ∙ sym (pieces_more ys i e within')

alone_at : (xs : List (Spanned RawChunk)) (i : ℕ) (d : Spanned RawChunk) → i < length xs
    → slice_get (placeless_pieces (map piece_of xs)) i ≡ Some (alone (piece_of (get_or xs i d)))
alone_at [] i d within = absurd (omega (arith, within))
alone_at (x ∷ xs) zero d within = refl
alone_at (x ∷ xs) (suc i) d within = alone_at xs i d (omega (arith, within))

-- pieces that differ at an index aren't the same
pub same_not : (xs ys : List (Spanned RawChunk)) (i : ℕ) (d e : Spanned RawChunk) → i < length xs → i < length ys
    → is_same_piece (piece_of (get_or xs i d)) (piece_of (get_or ys i e)) ≡ false
    → ArePiecesSame (map piece_of xs) (map piece_of ys) → ⊥
same_not xs ys i d e within within' other same =
    other_alone (piece_of (get_or xs i d)) (piece_of (get_or ys i e)) other
    (some_same (sym (alone_at xs i d within) ∙ ap (λ l. slice_get l i) same ∙ alone_at ys i e within'))

-- ---- the last element that passes a test

-- the last element that passes a test, and its index
record Last {A : Type 0} (test : A → Bool) (xs : List A) : Type 0 where
  index : ℕ
  item : A
  last : last_position test xs ≡ Some index
  here : slice_get xs index ≡ Some item
  passes : test item ≡ true

last_after : {A : Type 0} (test : A → Bool) (x : A) (xs : List A) → Last test xs → Last test (x ∷ xs)
last_after test x xs l = record {
  index = suc l.index;
  item = l.item;
  last = ap (or_first (test x)) l.last;
  here = l.here;
  passes = l.passes;
}

last_first : {A : Type 0} (test : A → Bool) (x : A) (xs : List A) → last_position test xs ≡ None → test x ≡ true → Last test (x ∷ xs)
last_first test x xs none passes = record {
  index = 0;
  item = x;
  last = ap (or_first (test x)) none ∙ ap (λ b. cond b (Some 0) None) passes;
  here = refl;
  passes = passes;
}

-- the last index at which a test is passed is that of an element that passes it
pub last_of : {A : Type 0} (test : A → Bool) (xs : List A) (k : ℕ) → last_position test xs ≡ Some k
    → (x : A) × (slice_get xs k ≡ Some x) × (test x ≡ true)
last_of test [] k is = absurd (cc)
last_of {A} test (x ∷ xs) k is = by_case (last_position test xs) refl (λ i some. last_of test xs i some) is
  where
    at_first : (b : Bool) → test x ≡ b → cond b (Some 0) None ≡ Some k
        → (y : A) × (slice_get (x ∷ xs) k ≡ Some y) × (test y ≡ true)
    at_first true passes found = (x, ap (slice_get (x ∷ xs)) (some_same (sym found)), passes)
    at_first false fails found = absurd (cc)

    by_case : (o : Option ℕ) → last_position test xs ≡ o
        → ((i : ℕ) → last_position test xs ≡ Some i → (y : A) × (slice_get xs i ≡ Some y) × (test y ≡ true))
        → or_first (test x) o ≡ Some k → (y : A) × (slice_get (x ∷ xs) k ≡ Some y) × (test y ≡ true)
    by_case None none later found = at_first (test x) refl found
    by_case (Some i) some later found =
        let rest = later i some in
        (rest.0, ap (slice_get (x ∷ xs)) (some_same (sym found)) ∙ rest.1, rest.2)

-- if an element passes, there is a last one that passes
last_there : {A : Type 0} (test : A → Bool) (xs : List A) (j : ℕ) (y : A) → slice_get xs j ≡ Some y → test y ≡ true → Last test xs
last_there test [] j y here passes = absurd (cc)
last_there {A} test (x ∷ xs) zero y here passes = by_case (last_position test xs) refl
  where
    by_case : (o : Option ℕ) → last_position test xs ≡ o → Last test (x ∷ xs)
    by_case None none = last_first test x xs none (ap test (some_same here) ∙ passes)
    by_case (Some k) some =
        let rest = last_of test xs k some in
        last_after test x xs (record { index = k; item = rest.0; last = some; here = rest.1; passes = rest.2 })
last_there test (x ∷ xs) (suc j) y here passes = last_after test x xs (last_there test xs j y here passes)

-- ---- definitions

-- names that are equal in any ASCII case are equal in ASCII lowercase
pub lower_same : (m n : List ℕ) → is_word m n ≡ true → str_to_ascii_lowercase m ≡ str_to_ascii_lowercase n
lower_same m n is = (bytes_eq-Decides (str_to_ascii_lowercase m) (str_to_ascii_lowercase n)).0 is

-- names that are equal in ASCII lowercase are equal in any ASCII case
pub word_from : (m n : List ℕ) → str_to_ascii_lowercase m ≡ str_to_ascii_lowercase n → is_word m n ≡ true
word_from m n same = (bytes_eq-Decides (str_to_ascii_lowercase m) (str_to_ascii_lowercase n)).1 same

last_by_name : (m n : List ℕ) (fs : List FieldReading) → str_to_ascii_lowercase m ≡ str_to_ascii_lowercase n
    → last_position (has_name m) fs ≡ last_position (has_name n) fs
last_by_name m n fs same =
    ap (λ l. last_position (λ (f : FieldReading). bytes_eq (str_to_ascii_lowercase f.name.text) l) fs) same

agree_all : (definitions others : List FieldReading) → AllAgree definitions others → AllAgree others definitions
    → AgreeOnDefinitions definitions others
agree_all definitions others one other i j f g here there named =
    let same = lower_same g.name.text f.name.text named in
    let last = last_there (has_name f.name.text) others j g there named in
    let first = last_there (has_name g.name.text) definitions i f here (word_from f.name.text g.name.text (sym same)) in
    let between =
    one first.index first.item first.here last.index last.item
    (last_by_name first.item.name.text f.name.text others
    (lower_same first.item.name.text g.name.text first.passes ∙ same)
    ∙ last.last) last.here in
    one i f here last.index last.item last.last last.here
    ∙ sym between
    ∙ sym (other j g there first.index first.item first.last first.here)

passes_at : (test : FieldReading → Bool) (fs : List FieldReading) (k : ℕ) (f : FieldReading)
    → last_position test fs ≡ Some k → slice_get fs k ≡ Some f → test f ≡ true
passes_at test fs k f last here =
    let found = last_of test fs k last in
    ap test (some_same (sym here ∙ found.1)) ∙ found.2

pub all_agree : (definitions others : List FieldReading) → AgreeOnDefinitions definitions others → AllAgree definitions others
all_agree definitions others agree j f here k g last there =
    agree j k f g here there (passes_at (has_name f.name.text) others k g last there)

others_agree : (definitions others : List FieldReading) → AgreeOnDefinitions definitions others → AllAgree others definitions
others_agree definitions others agree j g there k f last here =
    let named = passes_at (has_name g.name.text) definitions k f last here in
    sym (agree k j f g here there (word_from g.name.text f.name.text (sym (lower_same f.name.text g.name.text named))))

-- if each of `definitions` agrees with the last of `others` with its name, a test of the converse decides whether both lists agree
pub agree_if_both : (definitions others : List FieldReading) (answer : Bool) → AllAgree definitions others
    → MatchBool answer (AllAgree others definitions) (AllAgree others definitions → ⊥)
    → MatchBool answer (AgreeOnDefinitions definitions others) (AgreeOnDefinitions definitions others → ⊥)
agree_if_both definitions others true one other = agree_all definitions others one other
agree_if_both definitions others false one none = λ agree. none (others_agree definitions others agree)

-- if `g` is the last of `others` with the name of `f`, a test whether `f` and `g` have the same value decides `AgreesWithLast`
pub agree_at : (others : List FieldReading) (f g : FieldReading) (k : ℕ) (answer : Bool)
    → last_position (has_name f.name.text) others ≡ Some k → slice_get others k ≡ Some g
    → MatchBool answer (HaveSameValue f g) (HaveSameValue f g → ⊥)
    → MatchBool answer (AgreesWithLast others f) (AgreesWithLast others f → ⊥)
agree_at others f g k true last here same = λ j h last' here'.
    let index : k ≡ j = some_same (sym last ∙ last') in
    let item : g ≡ h = some_same (sym here ∙ ap (slice_get others) index ∙ here') in
    subst (λ x. HaveSameValue f x) item same
agree_at others f g k false last here other = λ agrees. other (agrees k g last here)
