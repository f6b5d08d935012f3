-- Replacing the undefined abbreviations of a field by text, one piece after another.
use Rattle.std.proofs.Common.{◌≡◌, ℕ, ◌+◌, ◌<◌, Bool, true, false, cond, List, [], ◌∷◌, ◌++◌, length, map, take, get_or, refl, sym, ap, subst, ◌∙◌, append_assoc, Option, None, Some, Bor}
use Rattle.std.specs.Option.{option_copied, unwrap_or}
use Rattle.std.proofs.lemmas.List.{append-nil, map-append, take_more}
use Rattle.bib_abbreviations.specs.Abbreviations.{Definitions, IsFirstError, error_at, is_known}
use Rattle.bib_tables.specs.VerbatimFields.{is_verbatim_field}
use Rattle.bib_file_entries.specs.Keeping.{IsLeftOut}
use Rattle.bib_file_entries.specs.Kept.{mended_field, mended_piece, unknown_names}
use Rattle.bib_file_entries.specs.Loaded.{CanBeRead, name_of}
use Rattle.bib_file_entries.specs.Loading.{pieces_of}
use Rattle.bib_file_entries.specs.Reading.{IsFieldError}
use Rattle.bib_syntax.specs.Reading.{FieldReading, Piece}
use Rattle.bib_syntax.specs.Reading.Piece.{abbreviation, literal}
use Rattle.bib_syntax.specs.Views.{field_of, part_of, piece_of}
use Rattle.bib_syntax.specs.declared.raw.Pair.{Pair}
use Rattle.bib_syntax.specs.declared.raw.ParseError.{ParseError}
use Rattle.bib_syntax.specs.declared.raw.ParseErrorKind.TheVariants.{UnknownAbbreviation}
use Rattle.bib_syntax.specs.declared.raw.RawChunk.{RawChunk}
use Rattle.bib_text.specs.declared.spanned.Spanned.{Spanned}

chosen_append : {A : Type 0} (b : Bool) (e : A) (xs ys zs : List A) → xs ≡ ys ++ zs → cond b xs (e ∷ xs) ≡ cond b ys (e ∷ ys) ++ zs
chosen_append true e xs ys zs is = is
chosen_append false e xs ys zs is = ap (λ l. e ∷ l) is

-- the errors of the undefined abbreviations in a concatenation are those of its two lists
pub unknown_names-append : (definitions : Definitions) (first rest : List Piece)
    → unknown_names definitions (first ++ rest) ≡ unknown_names definitions first ++ unknown_names definitions rest
unknown_names-append definitions [] rest = refl
unknown_names-append definitions (literal p ∷ first) rest = unknown_names-append definitions first rest
unknown_names-append definitions (abbreviation p ∷ first) rest =
    chosen_append (is_known definitions p.text) (error_at p (UnknownAbbreviation p.text))
    (unknown_names definitions (first ++ rest)) (unknown_names definitions first) (unknown_names definitions rest)
    (unknown_names-append definitions first rest)

-- pieces without undefined abbreviations are not changed
pub known_stay : (definitions : Definitions) (pieces : List Piece) → unknown_names definitions pieces ≡ []
    → map (mended_piece definitions) pieces ≡ pieces
known_stay definitions [] none = refl
known_stay definitions (literal p ∷ rest) none = ap (λ l. literal p ∷ l) (known_stay definitions rest none)
known_stay definitions (abbreviation p ∷ rest) none =
    elim (is_known definitions p.text) as (λ b. cond b (unknown_names definitions rest)
    (error_at p (UnknownAbbreviation p.text) ∷ unknown_names definitions rest) ≡ []
    → cond b (abbreviation p) (literal p) ∷ map (mended_piece definitions) rest ≡ abbreviation p ∷ rest) [
      | true ↦ λ e. ap (λ l. abbreviation p ∷ l) (known_stay definitions rest e)
      | false ↦ λ e. cc
    ] none

-- a field without undefined abbreviations is not changed
pub field_stays : (definitions : Definitions) (p : Pair) → unknown_names definitions (pieces_of p) ≡ []
    → field_of p ≡ mended_field definitions (field_of p)
field_stays definitions p none =
    let build : List Piece → FieldReading =
    λ pieces.
    record {
      name = part_of p.key;
      value = record { pieces = pieces; start = p.value.span.start; end = p.value.span.end };
    } in
    ap build (sym (known_stay definitions (pieces_of p) none))

-- the value of an optional borrow, or else of another one, is the optional value, or else the other value
pub now_or : {A : Type 0} (o : Option (Bor A)) (d : Bor A) → (unwrap_or o d).now ≡ unwrap_or (option_copied o) d.now
now_or None d = refl
now_or (Some x) d = refl

-- a field that can't be parsed after the replacement is left out
pub left_out : (definitions : Definitions) (said kept : Pair) (old errors new : List ParseError) (e : ParseError)
    → field_of kept ≡ mended_field definitions (field_of said) → IsFieldError definitions kept e
    → errors ≡ old ++ unknown_names definitions (pieces_of said) → new ≡ errors ++ e ∷ [] → IsLeftOut definitions said old new
left_out definitions said kept old errors new e is error noted pushed = record {
  error = e;
  first = subst (λ (g : FieldReading). IsFirstError definitions (is_verbatim_field (name_of g)) [] g.value.pieces e) is error.0;
  unread = λ can. error.1 (subst (CanBeRead definitions) (sym is) can);
  errors = pushed ∙ ap (λ l. l ++ e ∷ []) noted ∙ append_assoc old (unknown_names definitions (pieces_of said)) (e ∷ []);
}

-- if the pieces so far and the next one contain no undefined abbreviation, the pieces up to it contain none
pub none_next : (definitions : Definitions) (field : List (Spanned RawChunk)) (i : ℕ) (d : Spanned RawChunk) → i < length field
    → unknown_names definitions (map piece_of (take i field)) ≡ [] → unknown_names definitions (piece_of (get_or field i d) ∷ []) ≡ []
    → unknown_names definitions (map piece_of (take (i + 1) field)) ≡ []
none_next definitions field i d within before here =
    ap (λ l. unknown_names definitions (map piece_of l)) (take_more field i d within)
    ∙ ap (unknown_names definitions) (map-append piece_of (take i field) (get_or field i d ∷ []))
    ∙ unknown_names-append definitions (map piece_of (take i field)) (piece_of (get_or field i d) ∷ [])
    ∙ ap (λ l. l ++ unknown_names definitions (piece_of (get_or field i d) ∷ [])) before ∙ here

-- the undefined abbreviations in the first `i` pieces of a field were replaced
pub record MendedSoFar (definitions : Definitions) (field : List (Spanned RawChunk)) (i : ℕ)
    (pieces : List (Spanned RawChunk)) (before errors : List ParseError) : Type 0 where
  pub mended : map piece_of pieces ≡ map (mended_piece definitions) (map piece_of (take i field))
  pub noted : errors ≡ before ++ unknown_names definitions (map piece_of (take i field))

-- before the first piece, nothing was replaced
pub mended_none : (definitions : Definitions) (field : List (Spanned RawChunk)) (before : List ParseError)
    → MendedSoFar definitions field 0 [] before before
mended_none definitions field before = record { mended = refl; noted = sym (append-nil before) }

-- one more piece was copied or replaced
pub mended_next : (definitions : Definitions) (field pieces : List (Spanned RawChunk)) (i : ℕ) (d x : Spanned RawChunk)
    (before errors more : List ParseError)
    → i < length field → MendedSoFar definitions field i pieces before errors
    → piece_of x ≡ mended_piece definitions (piece_of (get_or field i d))
    → more ≡ errors ++ unknown_names definitions (piece_of (get_or field i d) ∷ [])
    → MendedSoFar definitions field (i + 1) (pieces ++ x ∷ []) before more
mended_next definitions field pieces i d x before errors more within so_far is added =
    let here : Piece = piece_of (get_or field i d) in
    let taken : map piece_of (take (i + 1) field) ≡ map piece_of (take i field) ++ here ∷ [] =
    ap (map piece_of) (take_more field i d within) ∙ map-append piece_of (take i field) (get_or field i d ∷ []) in
    record {
      mended =
          map-append piece_of pieces (x ∷ [])
          ∙ ap (λ l. l ++ piece_of x ∷ []) so_far.mended
          ∙ ap (λ p. map (mended_piece definitions) (map piece_of (take i field)) ++ p ∷ []) is
          ∙ sym (map-append (mended_piece definitions) (map piece_of (take i field)) (here ∷ []))
          ∙ ap (map (mended_piece definitions)) (sym taken);
      noted =
          added
          ∙ ap (λ l. l ++ unknown_names definitions (here ∷ [])) so_far.noted
          ∙ append_assoc before (unknown_names definitions (map piece_of (take i field))) (unknown_names definitions (here ∷ []))
          ∙ ap (λ l. before ++ l)
          (sym (unknown_names-append definitions (map piece_of (take i field)) (here ∷ []))
          ∙ ap (unknown_names definitions) (sym taken));
    }
