-- Machinery: words of private contracts.
-- Definitions of abbreviations, compared with the last definition of the same abbreviation.
use Rattle.std.specs.Prelude.{◌≡◌, ℕ, Bool, false, List, Option, Some, bytes_eq, slice_get}
use Rattle.std.specs.Str.{str_to_ascii_lowercase}
use Rattle.bib_syntax.specs.Reading.{FieldReading, Piece}
use Rattle.bib_syntax.specs.Reading.Piece.{abbreviation, literal}
use Rattle.edit_entries.specs.Documents.{HaveSameValue, has_name, last_position, placeless_pieces}

-- whether two pieces are two literals or two abbreviations, with one text
abbrev pub is_same_piece : Piece → Piece → Bool
is_same_piece (literal p) (literal q) = bytes_eq p.text q.text
is_same_piece (literal p) (abbreviation q) = false
is_same_piece (abbreviation p) (literal q) = false
is_same_piece (abbreviation p) (abbreviation q) = bytes_eq p.text q.text

-- pieces are the same, except for positions
abbrev pub ArePiecesSame : List Piece → List Piece → Type 0
ArePiecesSame one other = placeless_pieces one ≡ placeless_pieces other

-- `found` gives the index of the last definition of each abbreviation, by its name in ASCII lowercase
abbrev pub AreLast : List FieldReading → (List ℕ → Option ℕ) → Type 0
AreLast definitions found = (name : List ℕ) → found (str_to_ascii_lowercase name) ≡ last_position (has_name name) definitions

-- a definition has the value of the last of `others` with its name, in any ASCII case, if there is one
abbrev pub AgreesWithLast : List FieldReading → FieldReading → Type 0
AgreesWithLast others f =
    (k : ℕ) (g : FieldReading) → last_position (has_name f.name.text) others ≡ Some k → slice_get others k ≡ Some g
    → HaveSameValue f g

-- each definition has the value of the last of `others` with its name, in any ASCII case, if there is one
abbrev pub AllAgree : List FieldReading → List FieldReading → Type 0
AllAgree definitions others = (j : ℕ) (f : FieldReading) → slice_get definitions j ≡ Some f → AgreesWithLast others f
