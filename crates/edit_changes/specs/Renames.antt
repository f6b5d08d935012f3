-- Meaning: words of public contracts.
-- Renamed entries: those that are equal except for the key and the layout, and that no other entry is equal to.
use Rattle.std.specs.Prelude.{◌==◌, ◌&&◌, ℕ, not, List, [], ◌++◌, Option, Some, None, bytes_eq, codes, cond, count_by, length, map}
use Rattle.std.specs.FinMap.{get}
use Rattle.std.specs.List.{enumerate_from, flat_map}
use Rattle.std.specs.Str.{str_to_ascii_lowercase}
use Rattle.bib_syntax.specs.Reading.{EntryReading, FieldReading, Piece}
use Rattle.bib_syntax.specs.Reading.Piece.{abbreviation, literal}
use Rattle.edit_units.specs.Units.{UnitReading}
use Rattle.edit_versions.specs.Alike.{single_entry}
use Rattle.edit_versions.specs.Versions.{VersionReading, has_unit_named, indices_of, version_names, version_unit, words_with_spaces}

-- a piece as text: its words, after a line feed and a sign that says whether it is a literal; no word has a line feed
abbrev pub piece_content : Piece → List ℕ
piece_content (literal p) = codes "\n=" ++ words_with_spaces p.text
piece_content (abbreviation p) = codes "\n#" ++ words_with_spaces p.text

-- a field as text: its name in ASCII lowercase, after a line feed, and the words of its pieces
abbrev pub field_content : FieldReading → List ℕ
field_content f = codes "\n" ++ (str_to_ascii_lowercase f.name.text ++ flat_map piece_content f.value.pieces)

-- the content of an entry without its key, as text: its type in ASCII lowercase, and its fields
abbrev pub keyless_content : EntryReading → List ℕ
keyless_content e = str_to_ascii_lowercase e.kind.text ++ flat_map field_content e.fields

-- the content of the only entry of a unit, without its key, or an empty text for another unit
abbrev pub content_by : Option EntryReading → List ℕ
content_by None = []
content_by (Some e) = keyless_content e

abbrev pub keyless_unit_content : Option UnitReading → List ℕ
keyless_unit_content None = []
keyless_unit_content (Some u) = content_by (single_entry u)

-- the content of a unit, given its index and name, if the other version has no unit with this name; otherwise an empty text
abbrev pub lone_content : VersionReading → VersionReading → ℕ × List ℕ → List ℕ
lone_content v other x = cond (has_unit_named other x.1) [] (keyless_unit_content (version_unit v (Some x.0)))

-- the contents of the units that the other version lacks; the others have an empty text
abbrev pub lone_contents : VersionReading → VersionReading → List (List ℕ)
lone_contents v other = map (lone_content v other) (enumerate_from 0 (version_names v))

-- the index of the only one of these contents that is equal to one, if exactly one is
abbrev pub only_index : List (List ℕ) → List ℕ → Option ℕ
only_index contents content = cond (count_by (bytes_eq content) contents == 1) (get (indices_of contents) content) None

-- the index of the only one of the other contents that is equal to one, if that isn't empty and occurs once among its own ones
abbrev pub counterpart : List (List ℕ) → List (List ℕ) → List ℕ → Option ℕ
counterpart own others content =
    cond (not (length content == 0) && count_by (bytes_eq content) own == 1) (only_index others content) None

-- the index of the unit of the other version that the unit at an index was renamed from or to, if there is one
abbrev pub renamed_index : List (List ℕ) → List (List ℕ) → Option (List ℕ) → Option ℕ
renamed_index own others None = None
renamed_index own others (Some content) = counterpart own others content
