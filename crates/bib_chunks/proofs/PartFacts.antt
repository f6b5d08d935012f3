-- Facts about characters that no part of a list contains.
use Rattle.std.proofs.Common.{◌≡◌, ℕ, ◌+◌, Bool, true, false, List, [], ◌∷◌, ◌++◌, length, map, refl, sym, ap, subst, ◌∙◌, ⊎_elim}
use Rattle.std.specs.Prelude.{◌==◌, ◌||◌, encode_utf8_all}
use Rattle.std.specs.List.{list_any, onto_first, AllByRecursion}
use Rattle.std.specs.Str.{IsUtf8, chars}
use Rattle.std.specs.declared.ops.Range.{Range}
use Rattle.std.proofs.Math.Utf8.{scalars}
use Rattle.std.proofs.lemmas.Bool.{cases_Bool, false≢true, or_parts}
use Rattle.std.proofs.lemmas.List.Splits.{slice_split-cons_yes, slice_split-cons_no}
use Rattle.std.proofs.lemmas.Str.{scalars-chars, chars-encodes}
use Rattle.bib_chunks.specs.declared.chunk.Chunk.{Chunk}
use Rattle.bib_chunks.specs.declared.chunk.Chunk.TheVariants.{Normal, Verbatim, Math}
use Rattle.bib_text.specs.declared.spanned.Spanned.{Spanned}
use Rattle.bib_text.proofs.ListFacts.{all_append}
use Rattle.bib_chunks.specs.Styled.{Atom, atoms_of, styled, text_of}
use Rattle.bib_chunks.specs.Cuts.{piece, pieces, pieces_between, onto, joined_parts, list_parts, between_commas, comma_list, trimmed_chunk}
use Rattle.bib_chunks.specs.Parted.{AreTexts, HoldsNoComma, is_normal_comma}
use Rattle.bib_chunks.proofs.TrimFacts.{IsTrimmed, SaysPiece, piece_says, scalars_parts}
use Rattle.bib_chunks.proofs.WholeFacts.{rejoined, commas_whole}

-- each text between separators consists of valid characters if the whole text does
texts_valid : (separator : List ℕ) (texts : List (List ℕ)) → scalars (rejoined separator texts) ≡ true
    → AllByRecursion (λ t. scalars t ≡ true) texts
texts_valid separator [] valid = tt
texts_valid separator (text ∷ []) valid = (valid, tt)
texts_valid separator (text ∷ after ∷ more) valid =
    let parts = scalars_parts text _ valid in
    let rest = scalars_parts separator _ parts.1 in
    (parts.0, texts_valid separator (after ∷ more) rest.1)

-- a property of each piece of a list is one of each chunk of each part
module _ (P : Spanned Chunk → Type 0) where
  onto_hold : (leading_run : List (Spanned Chunk)) (parts : List (List (Spanned Chunk))) → AllByRecursion P leading_run
      → AllByRecursion (AllByRecursion P) parts → AllByRecursion (AllByRecursion P) (onto leading_run parts)
  onto_hold leading_run [] one hold = (one, tt)
  onto_hold leading_run (part ∷ parts) one hold = (all_append P leading_run part one hold.0, hold.1)

  joined_hold : (ps : List (Spanned Chunk)) (parts : List (List (Spanned Chunk))) → AllByRecursion P ps
      → AllByRecursion (AllByRecursion P) parts → AllByRecursion (AllByRecursion P) (joined_parts ps parts)
  joined_hold [] parts one hold = hold
  joined_hold (p ∷ []) parts one hold = onto_hold (p ∷ []) parts one hold
  joined_hold (p ∷ q ∷ more) parts one hold = ((one.0, tt), joined_hold (q ∷ more) parts one.1 hold)

  -- a property of all pieces of a list is one of all chunks of its parts
  pub list_hold : (w : ℕ) (cut : List ℕ → List (List ℕ)) (chunks : List (Spanned Chunk))
      → AllByRecursion (λ c. AllByRecursion P (pieces w cut c.v c.span)) chunks
      → AllByRecursion (AllByRecursion P) (list_parts w cut chunks)
  list_hold w cut [] hold = (tt, tt)
  list_hold w cut (c ∷ rest) hold = joined_hold (pieces w cut c.v c.span) (list_parts w cut rest) hold.0 (list_hold w cut rest hold.1)

-- if a property of texts is kept by trimming and gives one of chunks, all pieces have the latter
module _ (R : List ℕ → Type 0) (P : Chunk → Type 0)
    (left_holds : (first last : Bool) (text left : List ℕ) → IsTrimmed first last text left → R text → R left)
    (chunk_holds : (text : List ℕ) → scalars text ≡ true → R text → P (Normal (encode_utf8_all text))) where
  piece_holds : (whole : List ℕ) (span : Range ℕ) (at : ℕ) (first last : Bool) (text : List ℕ) → scalars text ≡ true
      → R text → P (piece whole span at first last (encode_utf8_all text)).v
  piece_holds whole span at first last text valid holds =
      let says : SaysPiece first last text (piece whole span at first last (encode_utf8_all text)) =
      piece_says whole span at first last text valid in
      subst P (sym says.is) (chunk_holds says.left says.valid (left_holds first last text says.left says.trimmed holds))

  between_hold : (w : ℕ) (whole : List ℕ) (span : Range ℕ) (at : ℕ) (following : Bool) (texts : List (List ℕ))
      → AllByRecursion (λ t. scalars t ≡ true) texts → AllByRecursion R texts
      → AllByRecursion (λ x. P x.v) (pieces_between w whole span at following texts)
  between_hold w whole span at following [] valid hold = tt
  between_hold w whole span at following (text ∷ []) valid hold = (piece_holds whole span at following false text valid.0 hold.0, tt)
  between_hold w whole span at following (text ∷ after ∷ more) valid hold = (
    piece_holds whole span at following true text valid.0 hold.0,
    between_hold w whole span (at + (length (encode_utf8_all text) + w)) true (after ∷ more) valid.1 hold.1,
  )

  module _ (separator : List ℕ) (w : ℕ) (cut : List ℕ → List (List ℕ)) (whole_again : (cs : List ℕ) → rejoined separator (cut cs) ≡ cs)
      (cut_holds : (cs : List ℕ) → AllByRecursion R (cut cs)) (verbatim_holds : (text : List ℕ) → P (Verbatim text))
      (math_holds : (text : List ℕ) → P (Math text)) where
    pieces_hold : (v : Chunk) (span : Range ℕ) → IsUtf8 (text_of v) → AllByRecursion (λ x. P x.v) (pieces w cut v span)
    pieces_hold (Normal text) span utf8 =
        between_hold w text span 0 false (cut (chars text))
        (texts_valid separator (cut (chars text)) (ap scalars (whole_again (chars text)) ∙ scalars-chars text utf8))
        (cut_holds (chars text))
    pieces_hold (Verbatim text) span utf8 = (verbatim_holds text, tt)
    pieces_hold (Math text) span utf8 = (math_holds text, tt)

    all_pieces_hold : (chunks : List (Spanned Chunk)) → AreTexts chunks
        → AllByRecursion (λ c. AllByRecursion (λ x. P x.v) (pieces w cut c.v c.span)) chunks
    all_pieces_hold [] texts = tt
    all_pieces_hold (c ∷ rest) texts = (pieces_hold c.v c.span texts.0, all_pieces_hold rest texts.1)

    pub parts_hold : (chunks : List (Spanned Chunk)) → AreTexts chunks
        → AllByRecursion (AllByRecursion (λ x. P x.v)) (list_parts w cut chunks)
    parts_hold chunks texts = list_hold (λ x. P x.v) w cut chunks (all_pieces_hold chunks texts)

-- if no element of two lists passes a test, no element of the appended lists does
any-append : {A : Type 0} (test : A → Bool) (xs ys : List A) → list_any test xs ≡ false → list_any test ys ≡ false
    → list_any test (xs ++ ys) ≡ false
any-append test [] ys one two = two
any-append test (x ∷ xs) ys one two =
    let both = or_parts (test x) (list_any test xs) one in
    ap (λ b. b || list_any test (xs ++ ys)) both.0 ∙ any-append test xs ys both.1 two

any-parts : {A : Type 0} (test : A → Bool) (xs ys : List A) → list_any test (xs ++ ys) ≡ false
    → (list_any test xs ≡ false) × (list_any test ys ≡ false)
any-parts test [] ys none = (refl, none)
any-parts test (x ∷ xs) ys none =
    let both = or_parts (test x) (list_any test (xs ++ ys)) none in
    let rest = any-parts test xs ys both.1 in
    (ap (λ b. b || list_any test xs) both.0 ∙ rest.0, rest.1)

-- characters contain no comma
abbrev pub HasNoComma : List ℕ → Type 0
HasNoComma text = list_any (λ c. c == 44) text ≡ false

-- a text without a comma has none after trimming
left_no_comma : (first last : Bool) (text left : List ℕ) → IsTrimmed first last text left → HasNoComma text → HasNoComma left
left_no_comma first last text left trimmed none =
    let parts = any-parts (λ c. c == 44) trimmed.lead (left ++ trimmed.trail) (ap (list_any (λ c. c == 44)) (sym trimmed.is) ∙ none) in
    (any-parts (λ c. c == 44) left trimmed.trail parts.1).0

same_commas : (cs : List ℕ) → list_any is_normal_comma (map Atom.normal cs) ≡ list_any (λ c. c == 44) cs
same_commas [] = refl
same_commas (c ∷ cs) = ap (λ b. (c == 44) || b) (same_commas cs)

no_verbatim_commas : (cs : List ℕ) → list_any is_normal_comma (map Atom.verbatim cs) ≡ false
no_verbatim_commas [] = refl
no_verbatim_commas (c ∷ cs) = no_verbatim_commas cs

-- a normal chunk of a text without a comma has no normal comma
chunk_no_comma : (text : List ℕ) → scalars text ≡ true → HasNoComma text
    → list_any is_normal_comma (atoms_of (Normal (encode_utf8_all text))) ≡ false
chunk_no_comma text valid none =
    ap (λ cs. list_any is_normal_comma (map Atom.normal cs)) (chars-encodes text valid) ∙ same_commas text ∙ none

first_no_comma : (c : ℕ) (texts : List (List ℕ)) → (c == 44) ≡ false → AllByRecursion HasNoComma texts
    → AllByRecursion HasNoComma (onto_first c texts)
first_no_comma c [] other hold = (ap (λ b. b || false) other, tt)
first_no_comma c (text ∷ texts) other hold = (ap (λ b. b || list_any (λ d. d == 44) text) other ∙ hold.0, hold.1)

-- no text between commas has a comma
between_no_comma : (cs : List ℕ) → AllByRecursion HasNoComma (between_commas cs)
between_no_comma [] = (refl, tt)
between_no_comma (c ∷ cs) =
    ⊎_elim (λ yes. subst (AllByRecursion HasNoComma) (sym (slice_split-cons_yes (λ d. d == 44) c cs yes)) (refl, between_no_comma cs))
    (λ other.
    subst (AllByRecursion HasNoComma) (sym (slice_split-cons_no (λ d. d == 44) c cs other))
    (first_no_comma c (between_commas cs) other (between_no_comma cs)))
    (cases_Bool (c == 44))

styled_no_comma : (part : List (Spanned Chunk))
    → AllByRecursion (λ x. list_any is_normal_comma (atoms_of x.v) ≡ false) part → HoldsNoComma part
styled_no_comma [] hold = refl
styled_no_comma (c ∷ rest) hold = any-append is_normal_comma (atoms_of c.v) (styled rest) hold.0 (styled_no_comma rest hold.1)

all_no_comma : (parts : List (List (Spanned Chunk)))
    → AllByRecursion (AllByRecursion (λ x. list_any is_normal_comma (atoms_of x.v) ≡ false)) parts
    → AllByRecursion HoldsNoComma parts
all_no_comma [] hold = tt
all_no_comma (part ∷ parts) hold = (styled_no_comma part hold.0, all_no_comma parts hold.1)

-- no part of a comma list has a normal comma
pub comma_list_no_comma : (chunks : List (Spanned Chunk)) → AreTexts chunks → AllByRecursion HoldsNoComma (comma_list chunks)
comma_list_no_comma chunks texts =
    all_no_comma (comma_list chunks)
    (parts_hold HasNoComma (λ v. list_any is_normal_comma (atoms_of v) ≡ false) left_no_comma chunk_no_comma (44 ∷ []) 1
    between_commas commas_whole between_no_comma (λ text. no_verbatim_commas (chars text)) (λ text. refl) chunks
    texts)
