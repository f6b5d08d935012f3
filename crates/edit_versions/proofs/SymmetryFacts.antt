-- Comparisons of units don't depend on the order of the two units.
use Rattle.std.proofs.Common.{◌≡◌, ℕ, Bool, true, false, List, [], ◌∷◌, Option, Some, None, refl, sym, ap₂}
use Rattle.std.specs.Prelude.{◌==◌, ◌&&◌, ◌||◌, bytes_eq, length, not, option_map}
use Rattle.std.specs.Str.{str_to_ascii_lowercase}
use Rattle.std.proofs.lemmas.Slice.Eq.{bytes_eq-Decides}
use Rattle.bib_text.proofs.PlaceFacts.{test_clash}
use Rattle.bib_syntax.specs.Grammar.{is_word}
use Rattle.bib_syntax.specs.Reading.{EntryReading, FieldReading, Piece}
use Rattle.bib_syntax.specs.Reading.Piece.{abbreviation, literal}
use Rattle.bib_queries.specs.EqualValues.{are_equal_pieces, is_equal_piece, with_single_spaces}
use Rattle.edit_units.specs.Units.{UnitReading}
use Rattle.edit_versions.specs.Alike.{are_alike, are_alike_by, are_alike_entries, are_alike_fields, are_alike_in_layout, are_same_texts, before_entry, behind_entry, has_comment_sign, have_same_words, is_alike, is_alike_field, is_same, rest_of_entry, single_entry}
use Rattle.edit_versions.specs.Versions.{VersionReading, text_of_unit, words_with_spaces}

both_same : {a b c d : Bool} → a ≡ c → b ≡ d → (a && b) ≡ (c && d)
both_same first second = ap₂ (λ x y. x && y) first second

swapped : (a b : Bool) → (a && b) ≡ (b && a)
swapped true true = refl
swapped true false = refl
swapped false true = refl
swapped false false = refl

-- ---- texts and values

pub bytes_symmetric : (text other : List ℕ) → bytes_eq text other ≡ bytes_eq other text
bytes_symmetric text other = by (bytes_eq text other) (bytes_eq other text) refl refl
  where
    by : (x y : Bool) → bytes_eq text other ≡ x → bytes_eq other text ≡ y → x ≡ y
    by true true is is' = refl
    by false false is is' = refl
    by true false is is' =
        absurd (test_clash (bytes_eq other text) ((bytes_eq-Decides other text).1 (sym ((bytes_eq-Decides text other).0 is))) is')
    by false true is is' =
        absurd (test_clash (bytes_eq text other) ((bytes_eq-Decides text other).1 (sym ((bytes_eq-Decides other text).0 is'))) is)

word_symmetric : (word other : List ℕ) → is_word word other ≡ is_word other word
word_symmetric word other = bytes_symmetric (str_to_ascii_lowercase word) (str_to_ascii_lowercase other)

piece_symmetric : (p q : Piece) → is_equal_piece p q ≡ is_equal_piece q p
piece_symmetric (literal p) (literal q) = bytes_symmetric (with_single_spaces false p.text) (with_single_spaces false q.text)
piece_symmetric (literal p) (abbreviation q) = refl
piece_symmetric (abbreviation p) (literal q) = refl
piece_symmetric (abbreviation p) (abbreviation q) = bytes_symmetric p.text q.text

pieces_symmetric : (ps qs : List Piece) → are_equal_pieces ps qs ≡ are_equal_pieces qs ps
pieces_symmetric [] [] = refl
pieces_symmetric [] (q ∷ qs) = refl
pieces_symmetric (p ∷ ps) [] = refl
pieces_symmetric (p ∷ ps) (q ∷ qs) = both_same (piece_symmetric p q) (pieces_symmetric ps qs)

-- ---- entries

field_symmetric : (f g : FieldReading) → is_alike_field f g ≡ is_alike_field g f
field_symmetric f g = both_same (word_symmetric f.name.text g.name.text) (pieces_symmetric f.value.pieces g.value.pieces)

fields_symmetric : (fs gs : List FieldReading) → are_alike_fields fs gs ≡ are_alike_fields gs fs
fields_symmetric [] [] = refl
fields_symmetric [] (g ∷ gs) = refl
fields_symmetric (f ∷ fs) [] = refl
fields_symmetric (f ∷ fs) (g ∷ gs) = both_same (field_symmetric f g) (fields_symmetric fs gs)

entries_symmetric : (text : List ℕ) (u : UnitReading) (e : EntryReading) (other : List ℕ) (v : UnitReading) (g : EntryReading)
    → are_alike_entries text u e other v g ≡ are_alike_entries other v g text u e
entries_symmetric text u e other v g =
    both_same
    (both_same
    (both_same (both_same (word_symmetric e.kind.text g.kind.text) (fields_symmetric e.fields g.fields))
    (bytes_symmetric (before_entry text u e) (before_entry other v g)))
    (bytes_symmetric (behind_entry text u e) (behind_entry other v g)))
    (bytes_symmetric (rest_of_entry text u e) (rest_of_entry other v g))

singles_symmetric : (text : List ℕ) (u : UnitReading) (found : Option EntryReading) (other : List ℕ) (v : UnitReading)
    (second : Option EntryReading)
    → are_alike_by text u found other v second ≡ are_alike_by other v second text u found
singles_symmetric text u None other v None = refl
singles_symmetric text u None other v (Some g) = refl
singles_symmetric text u (Some e) other v None = refl
singles_symmetric text u (Some e) other v (Some g) = entries_symmetric text u e other v g

-- ---- units

units_symmetric : (text : List ℕ) (u : UnitReading) (other : List ℕ) (v : UnitReading) → are_alike text u other v ≡ are_alike other v text u
units_symmetric text u other v =
    ap₂ (λ x y. x || y) (ap₂ (λ x y. x || y) (bytes_symmetric (text_of_unit text u) (text_of_unit other v)) layout) words
  where
    layout : are_alike_in_layout text u other v ≡ are_alike_in_layout other v text u
    layout =
        both_same (swapped (not (has_comment_sign (text_of_unit text u))) (not (has_comment_sign (text_of_unit other v))))
        (singles_symmetric text u (single_entry u) other v (single_entry v))

    words : have_same_words text u other v ≡ have_same_words other v text u
    words =
        both_same (swapped (length u.blocks == 0) (length v.blocks == 0))
        (bytes_symmetric (words_with_spaces (text_of_unit text u)) (words_with_spaces (text_of_unit other v)))

texts_symmetric : (text other : Option (List ℕ)) → are_same_texts text other ≡ are_same_texts other text
texts_symmetric None None = refl
texts_symmetric None (Some other) = refl
texts_symmetric (Some text) None = refl
texts_symmetric (Some text) (Some other) = bytes_symmetric text other

pub same_symmetric : (v : VersionReading) (u : Option UnitReading) (w : VersionReading) (x : Option UnitReading)
    → is_same v u w x ≡ is_same w x v u
same_symmetric v u w x = texts_symmetric (option_map (text_of_unit v.text) u) (option_map (text_of_unit w.text) x)

pub alike_symmetric : (v : VersionReading) (u : Option UnitReading) (w : VersionReading) (x : Option UnitReading)
    → is_alike v u w x ≡ is_alike w x v u
alike_symmetric v None w None = refl
alike_symmetric v None w (Some x) = refl
alike_symmetric v (Some u) w None = refl
alike_symmetric v (Some u) w (Some x) = units_symmetric v.text u w.text x
