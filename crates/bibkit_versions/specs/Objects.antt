-- Meaning: words of public contracts.
-- The JSON objects of changes.
use Rattle.std.specs.Prelude.{◌==◌, ℕ, List, [], ◌∷◌, ◌++◌, Option, Some, None, codes, cond}
use Rattle.std.specs.declared.ops.Range.{Range}
use Rattle.std.specs.Fmt.{decimal}
use Rattle.std.specs.List.{enumerate_from, flat_map}
use Rattle.serde_json.specs.Data.{Data}
use Rattle.serde_json.specs.Written.{compact_text}
use Rattle.bib_source.specs.Positions.{position_at}
use Rattle.edit_changes.specs.declared.changes.Change.{Change}
use Rattle.edit_changes.specs.declared.changes.Change.TheVariants.{Added, CommentsSet, FieldAdded, FieldRemoved, FieldSet, LayoutSet, Removed, Renamed, Reordered, TextSet, TypeSet}
use Rattle.edit_units.specs.Units.{UnitReading}
use Rattle.edit_versions.specs.Versions.{VersionReading, version_unit}
use Rattle.bibkit_versions.specs.Facts.{FactsReading, facts_of}
use Rattle.bibkit_versions.specs.Labels.{kind_at, unit_kind_name, unit_name_at}
use Rattle.bibkit_versions.specs.Lines.{change_subject}
use Rattle.bibkit_versions.specs.declared.lines.Subject.{Subject}
use Rattle.bibkit_versions.specs.declared.lines.Subject.TheVariants.{Old, New, Whole}

-- a text as a JSON string with its quotes
abbrev pub json_string : List ℕ → List ℕ
json_string text = compact_text (Data.string text)

-- the offset at which the first of these blocks begins, or else this one
abbrev pub start_of_blocks : ℕ → List (Range ℕ) → ℕ
start_of_blocks start [] = start
start_of_blocks start (block ∷ blocks) = block.start

-- the offset at which the first block of a unit begins, or else the unit
abbrev pub unit_start : Option UnitReading → ℕ
unit_start None = 0
unit_start (Some u) = start_of_blocks u.start u.blocks

-- the line in which the first block of the unit at an index begins, or else the unit
abbrev pub unit_line_at : VersionReading → ℕ → ℕ
unit_line_at v i = (position_at v.text (unit_start (version_unit v (Some i)))).line

-- the name of a change
abbrev pub change_name : Change → List ℕ
change_name (Removed old) = codes "removed"
change_name (Added new) = codes "added"
change_name (Renamed place) = codes "renamed"
change_name (TypeSet place) = codes "type-set"
change_name (FieldRemoved place old) = codes "field-removed"
change_name (FieldAdded place new) = codes "field-added"
change_name (FieldSet place old new) = codes "field-set"
change_name (CommentsSet place) = codes "comments-set"
change_name (TextSet place) = codes "text-set"
change_name (LayoutSet place) = codes "layout-set"
change_name Reordered = codes "reordered"

-- the members for the unit at an index: its kind, its name and its line
abbrev pub unit_members : VersionReading → ℕ → List ℕ
unit_members v i =
    codes ",\"kind\":\"" ++ (unit_kind_name (kind_at v i) ++ (codes "\",\"name\":" ++ (json_string (unit_name_at v i)
    ++ (codes ",\"line\":" ++ decimal (unit_line_at v i)))))

-- the members for the unit that a change is about
abbrev pub subject_members : VersionReading → VersionReading → Subject → List ℕ
subject_members v w (Old i) = unit_members v i
subject_members v w (New i) = unit_members w i
subject_members v w Whole = []

-- a member with this name and text, or an empty text if there is none
abbrev pub member : List ℕ → Option (List ℕ) → List ℕ
member name None = []
member name (Some text) = codes ",\"" ++ (name ++ (codes "\":" ++ json_string text))

-- the members for the parts of a change
abbrev pub facts_members : FactsReading → List ℕ
facts_members f = member (codes "field") f.field ++ (member (codes "old") f.old ++ member (codes "new") f.new)

-- the object of a change
abbrev pub change_object : VersionReading → VersionReading → Change → List ℕ
change_object v w change =
    codes "{\"change\":\"" ++ (change_name change ++ (codes "\"" ++ (subject_members v w (change_subject change)
    ++ (facts_members (facts_of v w change) ++ codes "}"))))

-- the text before an object at this index of an array: a line feed, after a comma unless the object is the first
abbrev pub object_separator : ℕ → List ℕ
object_separator index = cond (index == 0) (codes "\n") (codes ",\n")

-- an object at an index of the array
abbrev pub array_element : VersionReading → VersionReading → ℕ × Change → List ℕ
array_element v w x = object_separator x.0 ++ change_object v w x.1

-- the array of the objects of changes
abbrev pub changes_array : VersionReading → VersionReading → List Change → List ℕ
changes_array v w changes = codes "[" ++ (flat_map (array_element v w) (enumerate_from 0 changes) ++ codes "\n]\n")
