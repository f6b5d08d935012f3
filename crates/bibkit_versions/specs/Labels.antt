-- Meaning: words of public contracts.
-- The names of units and the texts of values, as they are printed.
use Rattle.std.specs.Prelude.{◌==◌, ℕ, List, [], ◌∷◌, ◌++◌, Option, Some, None, codes, cond, encode_utf8, encode_utf8_all, length, nat_lt, take}
use Rattle.std.specs.declared.ops.Range.{Range}
use Rattle.std.specs.Char.{is_control}
use Rattle.std.specs.List.{enumerate_from, flat_map}
use Rattle.std.specs.Str.{chars, trim_end}
use Rattle.bib_syntax.specs.Reading.{EntryReading, FieldReading, Piece}
use Rattle.bib_syntax.specs.Reading.Piece.{abbreviation, literal}
use Rattle.edit_units.specs.Units.{UnitReading}
use Rattle.edit_versions.specs.Versions.{VersionReading, first_line, text_of_unit, version_unit, words_with_spaces}
use Rattle.bibkit_versions.specs.declared.labels.Kind.{Kind}
use Rattle.bibkit_versions.specs.declared.labels.Kind.TheVariants.{Block, Definition, Entry, Text}
use Rattle.bibkit_versions.specs.declared.labels.TheConstants.{MOST_SHOWN}

-- a character, or U+FFFD for a control character, which could move the cursor or change colours
abbrev pub printable_character : ℕ → List ℕ
printable_character c = cond (is_control c) (encode_utf8 0xFFFD) (encode_utf8 c)

-- a text with U+FFFD for each control character
abbrev pub printable : List ℕ → List ℕ
printable text = flat_map printable_character (chars text)

-- a text on one line: each run of white space is one space, and none is at its start and its end
abbrev pub text_on_one_line : List ℕ → List ℕ
text_on_one_line text = trim_end (words_with_spaces text)

-- the first characters of a text, at most `MOST_SHOWN`
abbrev pub front : List ℕ → List ℕ
front text = encode_utf8_all (take MOST_SHOWN (chars text))

-- three points after a text that is cut
abbrev pub points_after : List ℕ → List ℕ
points_after text = cond (nat_lt MOST_SHOWN (length (chars text))) (codes "...") []

-- a text as it is shown in a line: on one line, cut to `MOST_SHOWN` characters, without control characters
abbrev pub shown_text : List ℕ → List ℕ
shown_text text = printable (front (text_on_one_line text)) ++ points_after (text_on_one_line text)

-- a piece of a value: a literal in braces, or the name of an abbreviation
abbrev pub piece_in_braces : Piece → List ℕ
piece_in_braces (literal p) = codes "{" ++ (p.text ++ codes "}")
piece_in_braces (abbreviation p) = p.text

-- a number sign before a piece at this index of a value, or an empty text before the first one
abbrev pub number_sign_before : ℕ → List ℕ
number_sign_before index = cond (index == 0) [] (codes " # ")

-- a piece at an index of a value, after the sign before it
abbrev pub joined_piece : ℕ × Piece → List ℕ
joined_piece x = number_sign_before x.0 ++ piece_in_braces x.1

-- a value: its pieces, joined by number signs
abbrev pub value_in_braces : List Piece → List ℕ
value_in_braces pieces = flat_map joined_piece (enumerate_from 0 pieces)

-- the kind of a unit: by its entries, its definitions and its blocks
abbrev pub kind_by : List EntryReading → List FieldReading → List (Range ℕ) → Kind
kind_by (e ∷ es) definitions blocks = Entry
kind_by [] (f ∷ fs) blocks = Definition
kind_by [] [] (block ∷ blocks) = Block
kind_by [] [] [] = Text

-- the kind of the unit at an index, if there is one
abbrev pub unit_kind : Option UnitReading → Kind
unit_kind None = Text
unit_kind (Some u) = kind_by u.says.entries u.says.abbreviations u.blocks

abbrev pub kind_at : VersionReading → ℕ → Kind
kind_at v i = unit_kind (version_unit v (Some i))

-- the name of a kind
abbrev pub unit_kind_name : Kind → List ℕ
unit_kind_name Entry = codes "entry"
unit_kind_name Definition = codes "string"
unit_kind_name Block = codes "block"
unit_kind_name Text = codes "text"

-- the text before the name of a unit of this kind
abbrev pub kind_prefix : Kind → List ℕ
kind_prefix Entry = []
kind_prefix Definition = codes "@string "
kind_prefix Block = []
kind_prefix Text = []

-- the name of a unit with this text: the key of its first entry, or the name of its first definition, or its first line
abbrev pub name_by : List EntryReading → List FieldReading → List ℕ → List ℕ
name_by (e ∷ es) definitions text = e.key.text
name_by [] (f ∷ fs) text = f.name.text
name_by [] [] text = first_line text

-- the name of the unit at an index, or an empty text if there is none
abbrev pub unit_name : List ℕ → Option UnitReading → List ℕ
unit_name text None = []
unit_name text (Some u) = name_by u.says.entries u.says.abbreviations (text_of_unit text u)

abbrev pub unit_name_at : VersionReading → ℕ → List ℕ
unit_name_at v i = unit_name v.text (version_unit v (Some i))

-- the name of the unit at an index as it is shown in a line
abbrev pub label_at : VersionReading → ℕ → List ℕ
label_at v i = kind_prefix (kind_at v i) ++ shown_text (unit_name_at v i)
