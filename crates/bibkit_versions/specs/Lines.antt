-- Meaning: words of public contracts.
-- The lines for changes.
use Rattle.std.specs.Prelude.{◌==◌, ℕ, List, [], ◌∷◌, ◌++◌, Option, Some, None, codes, cond, count_by, length}
use Rattle.std.specs.Fmt.{decimal}
use Rattle.std.specs.List.{flat_map}
use Rattle.bib_syntax.specs.Reading.{EntryReading}
use Rattle.edit_changes.specs.Changes.{is_layout}
use Rattle.edit_changes.specs.declared.changes.Change.{Change}
use Rattle.edit_changes.specs.declared.changes.Change.TheVariants.{Added, CommentsSet, FieldAdded, FieldRemoved, FieldSet, LayoutSet, Removed, Renamed, Reordered, TextSet, TypeSet}
use Rattle.edit_units.specs.Units.{UnitReading}
use Rattle.edit_versions.specs.Versions.{VersionReading, version_unit}
use Rattle.bibkit_versions.specs.Facts.{FactsReading, facts_of}
use Rattle.bibkit_versions.specs.Labels.{label_at, shown_text}
use Rattle.bibkit_versions.specs.declared.lines.Subject.{Subject}
use Rattle.bibkit_versions.specs.declared.lines.Subject.TheVariants.{Old, New, Whole}

-- the unit that a change is about
abbrev pub change_subject : Change → Subject
change_subject (Removed old) = Old old
change_subject (Added new) = New new
change_subject (Renamed place) = New place.new
change_subject (TypeSet place) = New place.new
change_subject (FieldRemoved place old) = New place.new
change_subject (FieldAdded place new) = New place.new
change_subject (FieldSet place old new) = New place.new
change_subject (CommentsSet place) = New place.new
change_subject (TextSet place) = New place.new
change_subject (LayoutSet place) = New place.new
change_subject Reordered = Whole

-- the word at the start of the line of a change
abbrev pub verb : Change → List ℕ
verb (Removed old) = codes "removed  "
verb (Added new) = codes "added    "
verb (Renamed place) = codes "renamed  "
verb (TypeSet place) = codes "changed  "
verb (FieldRemoved place old) = codes "changed  "
verb (FieldAdded place new) = codes "changed  "
verb (FieldSet place old new) = codes "changed  "
verb (CommentsSet place) = codes "changed  "
verb (TextSet place) = codes "changed  "
verb (LayoutSet place) = codes "changed  "
verb Reordered = codes "changed  "

-- the old and the new text, with an arrow between them if a change has both
abbrev pub arrow : Option (List ℕ) → Option (List ℕ) → List ℕ
arrow None None = []
arrow (Some old) None = codes "removed " ++ shown_text old
arrow None (Some new) = codes "added " ++ shown_text new
arrow (Some old) (Some new) = shown_text old ++ (codes " -> " ++ shown_text new)

-- the name of a field and a colon, or an empty text if there is none
abbrev pub field_prefix : Option (List ℕ) → List ℕ
field_prefix None = []
field_prefix (Some name) = shown_text name ++ codes ": "

-- the parts of a change
abbrev pub facts_text : FactsReading → List ℕ
facts_text f = field_prefix f.field ++ arrow f.old f.new

-- the word for a number of fields
abbrev pub fields_word : ℕ → List ℕ
fields_word count = cond (count == 1) (codes " field)") (codes " fields)")

-- the type and the number of fields of the first of these entries, or an empty text if there is none
abbrev pub summary_by : List EntryReading → List ℕ
summary_by [] = []
summary_by (e ∷ es) =
    codes "(@" ++ (shown_text e.kind.text ++ (codes ", " ++ (decimal (length e.fields) ++ fields_word (length e.fields))))

-- the summary of the first entry of the unit at an index
abbrev pub unit_summary : Option UnitReading → List ℕ
unit_summary None = []
unit_summary (Some u) = summary_by u.says.entries

abbrev pub summary_at : VersionReading → ℕ → List ℕ
summary_at v i = unit_summary (version_unit v (Some i))

-- the text after the name of the unit of a change
abbrev pub detail : VersionReading → VersionReading → Change → List ℕ
detail v w (Removed old) = summary_at v old
detail v w (Added new) = summary_at w new
detail v w (Renamed place) = facts_text (facts_of v w (Renamed place))
detail v w (TypeSet place) = facts_text (facts_of v w (TypeSet place))
detail v w (FieldRemoved place old) = facts_text (facts_of v w (FieldRemoved place old))
detail v w (FieldAdded place new) = facts_text (facts_of v w (FieldAdded place new))
detail v w (FieldSet place old new) = facts_text (facts_of v w (FieldSet place old new))
detail v w (CommentsSet place) = codes "comments"
detail v w (TextSet place) = []
detail v w (LayoutSet place) = []
detail v w Reordered = codes "the order of the entries"

-- two spaces before a text, or an empty text before an empty one
abbrev pub gap_to : List ℕ → List ℕ
gap_to text = cond (length text == 0) [] (codes "  ")

-- the name of a unit, and a text after it
abbrev pub after_label : List ℕ → List ℕ → List ℕ
after_label label text = label ++ gap_to text ++ text

-- the name of the unit that a line is about, and a text after it
abbrev pub body : VersionReading → VersionReading → Subject → List ℕ → List ℕ
body v w (Old i) text = after_label (label_at v i) text
body v w (New i) text = after_label (label_at w i) text
body v w Whole text = text

-- the unit whose name is in the line of a change: none for a new key, since the line has both keys
abbrev pub line_subject : Change → Subject
line_subject (Renamed place) = Whole
line_subject (Removed old) = Old old
line_subject (Added new) = New new
line_subject (TypeSet place) = New place.new
line_subject (FieldRemoved place old) = New place.new
line_subject (FieldAdded place new) = New place.new
line_subject (FieldSet place old new) = New place.new
line_subject (CommentsSet place) = New place.new
line_subject (TextSet place) = New place.new
line_subject (LayoutSet place) = New place.new
line_subject Reordered = Whole

-- the line of a change, or an empty text for one of the layout only
abbrev pub change_line : VersionReading → VersionReading → Change → List ℕ
change_line v w change =
    cond (is_layout change) [] (codes "  " ++ (verb change ++ (body v w (line_subject change) (detail v w change) ++ codes "\n")))

-- the line with the number of changes of the layout only, or an empty text if there is none
abbrev pub layout_line : ℕ → List ℕ
layout_line count =
    cond (count == 0) [] (codes "  layout   of " ++ (decimal count ++ cond (count == 1) (codes " unit\n") (codes " units\n")))

-- the changes of a file with this name: its name, their lines, and the line for those of the layout only. If there are none, an empty text
abbrev pub changes_text : List ℕ → VersionReading → VersionReading → List Change → List ℕ
changes_text name v w changes =
    cond (length changes == 0) []
    (name ++ codes "\n" ++ flat_map (change_line v w) changes ++ layout_line (count_by is_layout changes))
