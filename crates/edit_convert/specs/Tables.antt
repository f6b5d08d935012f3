-- Machinery: words of private contracts.
-- Names, dates and edits, by the values that the code uses.
use Rattle.std.specs.Prelude.{ℕ, Bool, List, map, None, Option, Some}
use Rattle.std.specs.Borrow.{Bor}
use Rattle.std.specs.List.{AllByRecursion}
use Rattle.std.specs.Option.{option_map}
use Rattle.std.specs.String.{string_bytes}
use Rattle.bib_syntax.specs.Reading.{EntryReading, FieldReading}
use Rattle.bib_syntax.specs.Views.{field_of}
use Rattle.edit_entries.specs.Edits as edits
use Rattle.bib_tables.specs.declared.dialects.Dialect.{Dialect}
use Rattle.edit_entries.specs.Changes.{FieldChange, edits_of_entry, edits_of_field, edits_of_fields}
use Rattle.edit_entries.specs.Layouts.{sign_at}
use Rattle.edit_entries.specs.Placed.{IsNamePlaced, IsPlaced, IsSignPlaced}
use Rattle.edit_entries.specs.Setting.{white_before}
use Rattle.edit_convert.specs.Conversions.{Replacement, conversion, date_if_divided, date_if_part, field_change, field_changes, first_replacement, other_name, preceded_by, type_if_named, with_missing_type}
use Rattle.edit_convert.specs.Types.{PrintedType, type_field}
use Rattle.edit_convert.specs.declared.types.Printed.{Printed}
use Rattle.edit_convert.specs.Dates as dates
use Rattle.edit_convert.specs.declared.changes.Changes.{Changes}
use Rattle.edit_convert.specs.declared.dates.Side.{Side}
use Rattle.edit_convert.specs.declared.dates.SideNames.{SideNames}
use Rattle.edit_convert.specs.declared.dates.Sides.{Sides}
use Rattle.edit_convert.specs.declared.new_fields.EntryField.{EntryField}

-- rows of two names, by their bytes
abbrev pub lent_names : List (Bor (List ℕ) × Bor (List ℕ)) → List (List ℕ × List ℕ)
lent_names rows = map (λ row. (row.0.now, row.1.now)) rows

-- a text, by its bytes, if there is one
abbrev pub lent_text : Option (Bor (List ℕ)) → Option (List ℕ)
lent_text text = option_map (λ t. t.now) text

-- a side of a date, by the bytes of its parts
abbrev pub side_as_written : Side → dates.Side
side_as_written side = record { year = side.year.now; month = side.month; day = lent_text side.day }

-- both sides, by the bytes of their parts
abbrev pub sides_as_written : Sides → dates.Sides
sides_as_written sides = record { from = side_as_written sides.from; to = option_map side_as_written sides.to }

-- the names of a side's fields, by their bytes
abbrev pub names_as_written : SideNames → dates.SideNames
names_as_written names = record { year = names.year.now; month = names.month.now; day = names.day.now }

-- a type of BibTeX, by the bytes of its texts
abbrev pub printed_of : Option Printed → Option PrintedType
printed_of printed = option_map (λ p. let type : PrintedType = record { name = p.name.now; text = p.text.now } in type) printed

-- the replacement of a field, by the changes of its entry
abbrev pub replacement_by : Changes → FieldReading → Option Replacement
replacement_by changes f =
    first_replacement changes.defines (date_if_part (option_map string_bytes changes.joined) f)
    (other_name (lent_names changes.names.items) f.name.text) (type_if_named (printed_of changes.printed) f)
    (date_if_divided changes.divides f)

-- the replacement of a field as in `replacement_by`, except that no date is divided
abbrev pub replacement_by_one : Changes → FieldReading → Option Replacement
replacement_by_one changes f =
    first_replacement changes.defines (date_if_part (option_map string_bytes changes.joined) f)
    (other_name (lent_names changes.names.items) f.name.text) (type_if_named (printed_of changes.printed) f) None

-- the names and the values of fields, and the texts between them, may be cut out of a text
pub record AreFieldsInText (text : List ℕ) (fs : List FieldReading) : Type 0 where
  pub names : AllByRecursion (IsNamePlaced text) fs
  pub values : AllByRecursion (IsPlaced text) fs
  pub signs : AllByRecursion (IsSignPlaced text) fs

-- the name and the value of a field, and the texts between names and values of its entry, may be cut out of the text
pub record IsFieldInText (at : EntryField) : Type 0 where
  pub name : IsNamePlaced at.text.now (field_of at.field.now)
  pub value : IsPlaced at.text.now (field_of at.field.now)
  pub sign : IsSignPlaced at.text.now (field_of at.field.now)
  pub signs : AllByRecursion (IsSignPlaced at.text.now) (map field_of at.fields.now)

-- the text between the name and the value of a new field that replaces a field or comes before it
abbrev pub sign_by : EntryField → List ℕ → List ℕ
sign_by at name = sign_at at.text.now (field_of at.field.now) (map field_of at.fields.now) name

-- the white space before the name of a field
abbrev pub white_at : EntryField → List ℕ
white_at at = white_before at.text.now at.field.now.key.span.start

-- the edits of a field, by its replacement
abbrev pub edits_at : EntryField → Option Replacement → List edits.Edit
edits_at at replacement =
    edits_of_field at.text.now (field_of at.field.now) (map field_of at.following.now)
    (field_change at.text.now (map field_of at.fields.now) (field_of at.field.now) (map field_of at.following.now) replacement)

-- the change of a field. A missing value of `type` that is still to be added comes before the first field that is kept
abbrev pub pending_change : List ℕ → List FieldReading → FieldReading → Option (List ℕ) → List FieldReading → Option Replacement
    → FieldChange
pending_change text fields f (Some value) following None = preceded_by text fields f (type_field value)
pending_change text fields f pending following replacement = field_change text fields f following replacement

-- the value that is still to be added after a field
abbrev pub pending_after : Option (List ℕ) → Option Replacement → Option (List ℕ)
pending_after pending None = None
pending_after pending (Some replacement) = pending

-- the edits of a field, by its replacement and a value of `type` that is still to be added
abbrev pub pending_edits : EntryField → Option (List ℕ) → Option Replacement → List edits.Edit
pending_edits at pending replacement =
    edits_of_field at.text.now (field_of at.field.now) (map field_of at.following.now)
    (pending_change at.text.now (map field_of at.fields.now) (field_of at.field.now) pending (map field_of at.following.now) replacement)

-- the edits of the last fields of an entry, by the changes of the entry and a value of `type` that is still to be added; `fields` are all
-- fields of the entry
abbrev pub change_edits : Changes → List ℕ → List FieldReading → Option (List ℕ) → List FieldReading → List edits.Edit
change_edits changes text fields pending fs =
    edits_of_fields text fs (with_missing_type text fields pending fs (field_changes text fields (replacement_by changes) fs))

-- the edits of an entry for a dialect. `defines` is whether the file defines the abbreviation of a month.
abbrev pub conversion_edits : Dialect → Bool → List ℕ → EntryReading → List edits.Edit
conversion_edits dialect defines text e = edits_of_entry text e (conversion dialect defines text e)
