-- Pieces and their new texts.
use Rattle.std.proofs.Common.{◌≡◌, ℕ, ◌+◌, ◌<◌, List, [], ◌∷◌, ◌++◌, length, drop, take, map, get_or, sym, ap, ◌∙◌, arith}
use Rattle.std.specs.Prelude.{String}
use Rattle.std.specs.Global.{Global}
use Rattle.std.specs.List.{AllByRecursion}
use Rattle.std.specs.String.{string_bytes}
use Rattle.std.proofs.lemmas.List.{drop_more, drop-map, length-map, map-append, take_more}
use Rattle.bib_syntax.specs.Reading.{Piece}
use Rattle.bib_syntax.specs.Reading.Piece.{literal, abbreviation}
use Rattle.bib_syntax.specs.Views.{piece_of}
use Rattle.bib_syntax.specs.declared.raw.RawChunk.{RawChunk}
use Rattle.bib_text.specs.declared.spanned.Spanned.{Spanned}
use Rattle.edit_entries.specs.Cuts.{IsPieceCut}
use Rattle.edit_accents.specs.Pieces.{new_texts, text_of_piece, piece_with_text}
use Rattle.edit_accents.specs.Recoded.{piece_recoded}
use Rattle.edit_accents.specs.declared.recoding.Form.{Form}

first_is : {A : Type 0} {x y : A} {xs ys : List A} → x ∷ xs ≡ y ∷ ys → x ≡ y
first_is {x = x} same = ap (λ l. get_or l 0 x) same

-- if the new texts are those of all pieces, the text at the index of a piece is its new text
pub text_at : (form : Form) (pieces : List (Spanned RawChunk)) (texts : List (String Global)) (i : ℕ) (p : Spanned RawChunk)
    (t : String Global) → i < length pieces → p ≡ get_or pieces i p → t ≡ get_or texts i t
    → map string_bytes texts ≡ new_texts form (map piece_of pieces) → string_bytes t ≡ text_of_piece (piece_recoded form (piece_of p))
text_at form pieces texts i p t within p_is t_is same =
    let sizes : length texts ≡ length pieces =
    sym (length-map texts string_bytes) ∙ ap length same
    ∙ length-map (map piece_of pieces) (λ q. text_of_piece (piece_recoded form q)) ∙ length-map pieces piece_of in
    let both : map string_bytes (drop i texts) ≡ new_texts form (map piece_of (drop i pieces)) =
    sym (drop-map string_bytes i texts) ∙ ap (drop i) same
    ∙ drop-map (λ q. text_of_piece (piece_recoded form q)) i (map piece_of pieces)
    ∙ ap (new_texts form) (drop-map piece_of i pieces) in
    let text_first : drop i texts ≡ t ∷ drop (i + 1) texts =
    drop_more texts i t (omega (arith, sizes, within)) ∙ ap (λ y. y ∷ drop (i + 1) texts) (sym t_is) in
    let piece_first : drop i pieces ≡ p ∷ drop (i + 1) pieces =
    drop_more pieces i p within ∙ ap (λ y. y ∷ drop (i + 1) pieces) (sym p_is) in
    first_is
    (sym (ap (map string_bytes) text_first) ∙ both ∙ ap (λ l. new_texts form (map piece_of l)) piece_first)

-- a piece with the text that it gets is the recoded piece
pub recoded_is : (form : Form) (p : Piece) (text : List ℕ) → text ≡ text_of_piece (piece_recoded form p)
    → piece_with_text p text ≡ piece_recoded form p
recoded_is form (literal p) text is = ap (λ t. literal (record p { text = t })) is
recoded_is form (abbreviation p) text is = ap (λ t. abbreviation (record p { text = t })) is

-- after one more piece, the new pieces are those up to the next index
pub recoded_more : (form : Form) (pieces : List (Spanned RawChunk)) (i : ℕ) (p : Spanned RawChunk) → i < length pieces
    → p ≡ get_or pieces i p → (old new : List (Spanned RawChunk)) (made : Spanned RawChunk)
    → map piece_of old ≡ map (piece_recoded form) (map piece_of (take i pieces)) → new ≡ old ++ made ∷ []
    → piece_of made ≡ piece_recoded form (piece_of p)
    → map piece_of new ≡ map (piece_recoded form) (map piece_of (take (i + 1) pieces))
recoded_more form pieces i p within p_is old new made so_far pushed is =
    let one_more : take (i + 1) pieces ≡ take i pieces ++ p ∷ [] =
    take_more pieces i p within ∙ ap (λ y. take i pieces ++ y ∷ []) (sym p_is) in
    ap (map piece_of) pushed ∙ map-append piece_of old (made ∷ [])
    ∙ ap (λ l. l ++ piece_of made ∷ []) so_far
    ∙ ap (λ q. map (piece_recoded form) (map piece_of (take i pieces)) ++ q ∷ []) is
    ∙ sym
    (ap (λ l. map (piece_recoded form) (map piece_of l)) one_more
    ∙ ap (map (piece_recoded form)) (map-append piece_of (take i pieces) (p ∷ []))
    ∙ map-append (piece_recoded form) (map piece_of (take i pieces)) (piece_of p ∷ []))

-- literals that begin at character boundaries still do when they are recoded
pub recoded_cut : (form : Form) (text : List ℕ) (pieces : List Piece) → AllByRecursion (IsPieceCut text) pieces
    → AllByRecursion (IsPieceCut text) (map (piece_recoded form) pieces)
recoded_cut form text [] cut = tt
recoded_cut form text (literal p ∷ rest) cut = (cut.0, recoded_cut form text rest cut.1)
recoded_cut form text (abbreviation p ∷ rest) cut = (tt, recoded_cut form text rest cut.1)
