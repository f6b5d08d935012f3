-- Meaning: words of public contracts.
-- A version of a file, and the names by which its units are found in other versions.
use Rattle.std.specs.Prelude.{◌==◌, ℕ, List, [], ◌∷◌, ◌++◌, Option, None, Some, Bool, bytes_eq, codes, count_by, drop, encode_utf8_all, is_some, map, slice_get, true}
use Rattle.std.specs.declared.ops.Range.{Range}
use Rattle.std.specs.Fmt.{decimal}
use Rattle.std.specs.FinMap.{empty, get}
use Rattle.std.specs.List.{after_first, before_first, enumerate_from}
use Rattle.std.specs.Str.{chars, str_to_ascii_lowercase}
use Rattle.bib_collections.specs.Names.{with_claims}
use Rattle.bib_collections.specs.Sorted.{ByText}
use Rattle.bib_text.specs.Characters as char
use Rattle.bib_text.specs.Places.{between, place}
use Rattle.bib_syntax.specs.Reading.{EntryReading, FieldReading}
use Rattle.bib_queries.specs.EqualValues.{with_single_spaces}
use Rattle.edit_units.specs.Units.{UnitReading, UnitTexts, end_of_units, texts_from}

-- the bytes of a unit
abbrev pub text_of_unit : List ℕ → UnitReading → List ℕ
text_of_unit text u = between (place text u.start) (place text u.end)

-- the first line of a text
abbrev pub first_line : List ℕ → List ℕ
first_line text = before_first (λ b. b == char.line_feed) text

-- whether a byte is a colon
abbrev pub is_colon : ℕ → Bool
is_colon b = b == char.colon

-- the words of a text, each with a space after it. Words are separated by ASCII white space
abbrev pub words_with_spaces : List ℕ → List ℕ
words_with_spaces text = encode_utf8_all (with_single_spaces true (chars text ++ char.space ∷ []))

-- the bytes of a block
abbrev pub text_of_block : List ℕ → Range ℕ → List ℕ
text_of_block text block = between (place text block.start) (place text block.end)

-- the words of a line up to its second colon, without the colons. In JabRef's settings, as `@comment{jabref-meta: grouping:`, this is the
-- name of the setting
abbrev pub words_to_second_colon : List ℕ → List ℕ
words_to_second_colon line =
    words_with_spaces (before_first is_colon line) ++ words_with_spaces (before_first is_colon (after_first is_colon line))

-- the name of a unit without entries, definitions and preambles: the words of the first line of its first block up to the second colon
-- there. Without blocks, the words of its text
abbrev pub name_by_blocks : List ℕ → UnitReading → List (Range ℕ) → List ℕ
name_by_blocks text u [] = codes "text " ++ words_with_spaces (text_of_unit text u)
name_by_blocks text u (block ∷ blocks) = codes "comment " ++ words_to_second_colon (first_line (text_of_block text block))

-- the name of a unit without entries and definitions: `preamble` if it has a preamble
abbrev pub name_by_preamble : List ℕ → UnitReading → List ℕ → List ℕ
name_by_preamble text u [] = name_by_blocks text u u.blocks
name_by_preamble text u (b ∷ bs) = codes "preamble"

-- the name of a unit without entries: that of its first definition in ASCII lowercase, if it has one
abbrev pub name_by_definitions : List ℕ → UnitReading → List FieldReading → List ℕ
name_by_definitions text u [] = name_by_preamble text u u.says.preamble
name_by_definitions text u (f ∷ fs) = codes "string " ++ str_to_ascii_lowercase f.name.text

-- the name of a unit: the key of its first entry, if it has one. Keys that differ in case are different names
abbrev pub name_by_entries : List ℕ → UnitReading → List EntryReading → List ℕ
name_by_entries text u [] = name_by_definitions text u u.says.abbreviations
name_by_entries text u (e ∷ es) = codes "entry " ++ e.key.text

-- the name of a unit, which other units of the file may have too
abbrev pub own_name : List ℕ → UnitReading → List ℕ
own_name text u = name_by_entries text u u.says.entries

-- a name that no other unit of the file has: the number of earlier units with this own name, and this own name
abbrev pub unique_name : List (List ℕ) → List ℕ → List ℕ
unique_name earlier own = decimal (count_by (bytes_eq own) earlier) ++ (codes " " ++ own)

-- the names of units, of which `earlier` are the own names of the units before them
abbrev pub unique_names : List (List ℕ) → List (List ℕ) → List (List ℕ)
unique_names earlier [] = []
unique_names earlier (own ∷ owns) = unique_name earlier own ∷ unique_names (earlier ++ own ∷ []) owns

-- the names of the units of a text
abbrev pub unit_names : List ℕ → List UnitReading → List (List ℕ)
unit_names text units = unique_names [] (map (own_name text) units)

-- a version of a file: its text and its units
pub record VersionReading : Type 0 where
  pub text : List ℕ
  pub units : List UnitReading

-- the names of the units of a version
abbrev pub version_names : VersionReading → List (List ℕ)
version_names v = unit_names v.text v.units

-- the index of the unit with each name
abbrev pub indices_of : List (List ℕ) → ByText ℕ
indices_of names = with_claims empty (map (λ x. (x.1, x.0)) (enumerate_from 0 names))

-- the index of the unit of a version that has a name, if there is one
abbrev pub named_index : VersionReading → List ℕ → Option ℕ
named_index v name = get (indices_of (version_names v)) name

-- whether a version has a unit with this name
abbrev pub has_unit_named : VersionReading → List ℕ → Bool
has_unit_named v name = is_some (named_index v name)

-- the own name in a name: the part after the number
abbrev pub own_part : List ℕ → List ℕ
own_part name = after_first (λ b. b == char.space) name

-- whether several units of a version have this own name: then one of them is number 1, as numbers begin at 0
abbrev pub is_repeated_name : VersionReading → List ℕ → Bool
is_repeated_name v own = has_unit_named v (codes "1 " ++ own)

-- ---- the units at indices

-- the unit at an index, if there is an index
abbrev pub version_unit : VersionReading → Option ℕ → Option UnitReading
version_unit v None = None
version_unit v (Some i) = slice_get v.units i

-- the units of a version as texts, with the white space before each
abbrev pub version_texts : VersionReading → List UnitTexts
version_texts v = texts_from v.text 0 v.units

-- the white space after the last unit of a version
abbrev pub end_of : VersionReading → List ℕ
end_of v = drop (end_of_units 0 v.units) v.text

-- the texts of the unit at an index, if there is an index
abbrev pub texts_at : VersionReading → Option ℕ → Option UnitTexts
texts_at v None = None
texts_at v (Some i) = slice_get (version_texts v) i
