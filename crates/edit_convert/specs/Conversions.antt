-- Meaning: words of public contracts.
-- A file with its entry types and fields converted to those of BibLaTeX or of BibTeX. Values are kept, except those of dates and types.
use Rattle.std.specs.Prelude.{◌==◌, ◌&&◌, ℕ, Bool, true, false, not, ◌||◌, if◌then◌else◌, List, [], ◌∷◌, ◌++◌, codes, filter, length, nat_lt, bytes_eq, is_some, Option, Some, None}
use Rattle.std.specs.List.{find, list_any}
use Rattle.bib_syntax.specs.Grammar.{is_word}
use Rattle.bib_syntax.specs.Reading.{FieldReading, EntryReading}
use Rattle.bib_tables.specs.EntryType.{entry_type_name, entry_type_of}
use Rattle.bib_tables.specs.declared.mechanics.EntryType.{EntryType}
use Rattle.bib_tables.specs.declared.mechanics.EntryType.TheVariants.{Unknown}
use Rattle.bib_tables.specs.Dialects.{kind_in, biblatex_names, names_in}
use Rattle.bib_tables.specs.declared.dialects.Dialect.{Dialect}
use Rattle.bib_tables.specs.declared.dialects.Dialect.TheVariants.{Biblatex, Bibtex}
use Rattle.edit_entries.specs.Documents.{Document, has_name}
use Rattle.edit_format.specs.Formatted.{has_percent}
use Rattle.edit_strings.specs.Collected.{single_text, is_month}
use Rattle.edit_entries.specs.Changes.{EntryChange, FieldChange, IsChanged, NewField, braced_field, braced_value}
use Rattle.edit_entries.specs.Layouts.{sign_at}
use Rattle.edit_entries.specs.Setting.{white_before}
use Rattle.edit_convert.specs.Types.{PrintedType, type_by_value, type_field, type_value}
use Rattle.edit_convert.specs.Dates.{Sides, date_sides, from_names, more_fields, part_names, to_fields, side_year}
use Rattle.edit_convert.specs.Joined.{joined_text, month_value}

-- whether `EntryType` has no variant for a type; BibLaTeX has types without a variant, for example `artwork`
abbrev pub is_unnamed_type : EntryType → Bool
is_unnamed_type (Unknown name) = true
is_unnamed_type kind = false

-- the name of the type that a dialect uses for a type, if it is another one. A type without a variant of `EntryType` is kept
abbrev pub other_type : Dialect → EntryType → Option (List ℕ)
other_type dialect kind =
    if is_unnamed_type kind || bytes_eq (entry_type_name (kind_in dialect kind)) (entry_type_name kind) then None
    else Some (entry_type_name (kind_in dialect kind))

-- the fields that a conversion to a dialect can rename in entries of a type, each with the dialect's name
abbrev pub other_names : Dialect → EntryType → List (List ℕ × List ℕ)
other_names Biblatex kind = biblatex_names
other_names Bibtex kind = names_in kind

-- whether one of these fields has this name, in any ASCII case
abbrev pub is_field_there : List FieldReading → List ℕ → Bool
is_field_there fields name = list_any (has_name name) fields

-- the rows whose second name no field has
abbrev pub free_names : List FieldReading → List (List ℕ × List ℕ) → List (List ℕ × List ℕ)
free_names fields names = filter (λ row. not (is_field_there fields row.1)) names

-- the second name of the first row whose first name is a name, in any ASCII case
abbrev pub other_name : List (List ℕ × List ℕ) → List ℕ → Option (List ℕ)
other_name [] name = None
other_name (row ∷ rows) name = if is_word name row.0 then Some row.1 else other_name rows name

-- the names of fields that are replaced in an entry, each with its new name. The type is the entry's type before the conversion.
abbrev pub replaced_names : Dialect → EntryReading → List (List ℕ × List ℕ)
replaced_names dialect e = free_names e.fields (other_names dialect (entry_type_of e.kind.text))

-- the new name of an entry's field, if its name is replaced
abbrev pub new_field_name : Dialect → EntryReading → FieldReading → Option (List ℕ)
new_field_name dialect e f = other_name (replaced_names dialect e) f.name.text

-- the number of fields with this name, in any ASCII case
abbrev pub times_named : List FieldReading → List ℕ → ℕ
times_named fields name = length (filter (has_name name) fields)

-- whether a date may be replaced by fields of its parts: there is one `date`, and the entry has none of these fields
abbrev pub is_date_free : List FieldReading → Bool
is_date_free fields = (times_named fields (codes "date") == 1) && not (list_any (is_field_there fields) part_names)

-- the sides of a date that can be divided into fields. The argument is the text of the value, if the value is one literal.
abbrev pub value_sides : Option (List ℕ) → Option Sides
value_sides None = None
value_sides (Some text) = date_sides text

-- whether an entry's date may be replaced by fields of its parts in a dialect; never for BibLaTeX
abbrev pub divides_date : Dialect → List FieldReading → Bool
divides_date Biblatex fields = false
divides_date Bibtex fields = is_date_free fields

-- the sides of a field that is a date, if the entry's date may be divided
abbrev pub date_if_divided : Bool → FieldReading → Option Sides
date_if_divided divides f = if has_name (codes "date") f && divides then value_sides (single_text f.value.pieces) else None

-- the sides of a field of an entry, if it is the date that is replaced by fields of its parts
abbrev pub date_to_divide : Dialect → EntryReading → FieldReading → Option Sides
date_to_divide dialect e f = date_if_divided (divides_date dialect e.fields) f

-- whether a field is a part of a date: a year, a month or a day
abbrev pub is_date_part : FieldReading → Bool
is_date_part f = has_name (codes "year") f || has_name (codes "month") f || has_name (codes "day") f

-- the fields that prevent the parts of a date from being joined
abbrev pub other_date_names : List (List ℕ)
other_date_names = codes "date" ∷ codes "endyear" ∷ codes "endmonth" ∷ codes "endday" ∷ []

-- whether there is one year, one month and at most one day, and none of the other fields of dates
abbrev pub has_parts_once : List FieldReading → Bool
has_parts_once fields =
    (times_named fields (codes "year") == 1)
    &&
    ((times_named fields (codes "month") == 1)
    &&
    (nat_lt (times_named fields (codes "day")) 2
    && not (list_any (is_field_there fields) other_date_names)))

-- whether no comment occurs between a field and the next one
abbrev pub is_comment_free : List ℕ → FieldReading → List FieldReading → Bool
is_comment_free text f [] = true
is_comment_free text f (g ∷ gs) = not (has_percent text f.value.end g.name.start)

-- whether joining the parts of a date removes no comment after a field: it doesn't remove the field, or no comment follows it. The
-- field is removed if it is a part and another part follows.
abbrev pub keeps_comments : List ℕ → FieldReading → List FieldReading → Bool
keeps_comments text f following = not (is_date_part f && list_any is_date_part following) || is_comment_free text f following

-- whether `keeps_comments` holds for each of these fields and the fields after it
abbrev pub keep_comments : List ℕ → List FieldReading → Bool
keep_comments text [] = true
keep_comments text (f ∷ fs) = keeps_comments text f fs && keep_comments text fs

-- the text of a field, if there is one and its value is one literal
abbrev pub literal_of : Option FieldReading → Option (List ℕ)
literal_of None = None
literal_of (Some f) = single_text f.value.pieces

-- the type of BibTeX that an entry's type and its field `type` mean, if it has one such field and they mean one
abbrev pub read_type : EntryType → List FieldReading → Option PrintedType
read_type kind fields =
    if times_named fields (codes "type") == 1 then type_by_value kind (literal_of (find (has_name (codes "type")) fields)) else None

-- the type of BibTeX that an entry gets by its field `type`, if there is one; for BibLaTeX there is none
abbrev pub printed_type : Dialect → EntryType → List FieldReading → Option PrintedType
printed_type Biblatex kind fields = None
printed_type Bibtex kind fields = read_type kind fields

-- the value of the field `type` to be added to an entry for BibLaTeX, if the type needs one and the entry has no such field
abbrev pub missing_type : Dialect → EntryType → List FieldReading → Option (List ℕ)
missing_type Biblatex kind fields = if is_field_there fields (codes "type") then None else type_value kind
missing_type Bibtex kind fields = None

-- the text of a month, if there is such a field
abbrev pub month_of : Bool → Option FieldReading → Option (List ℕ)
month_of defines None = None
month_of defines (Some f) = month_value defines f.value.pieces

-- the text of the date with a year, a month and a day, if the day is one literal
abbrev pub date_on_day : List ℕ → List ℕ → Option (List ℕ) → Option (List ℕ)
date_on_day year month None = None
date_on_day year month (Some day) = joined_text year month (Some day)

-- the text of the date with a year and a month, and with a day if there is such a field
abbrev pub date_of_parts : Option (List ℕ) → Option (List ℕ) → Option FieldReading → Option (List ℕ)
date_of_parts None month day = None
date_of_parts (Some year) None day = None
date_of_parts (Some year) (Some month) None = joined_text year month None
date_of_parts (Some year) (Some month) (Some day) = date_on_day year month (single_text day.value.pieces)

-- the text of the date whose parts are among an entry's fields
abbrev pub date_of_fields : Bool → List FieldReading → Option (List ℕ)
date_of_fields defines fields =
    date_of_parts (literal_of (find (has_name (codes "year")) fields))
    (month_of defines (find (has_name (codes "month")) fields)) (find (has_name (codes "day")) fields)

-- the text of the date that replaces its parts among an entry's fields, if they are joined. They are only joined for BibLaTeX, if
-- `has_parts_once` and `keep_comments` hold
abbrev pub joined_date : Dialect → Bool → List ℕ → List FieldReading → Option (List ℕ)
joined_date Biblatex defines text fields =
    if has_parts_once fields && keep_comments text fields then date_of_fields defines fields else None
joined_date Bibtex defines text fields = None

-- whether a file defines the abbreviation of a month, in any ASCII case
abbrev pub defines_month : List FieldReading → Bool
defines_month abbreviations = list_any (λ f. is_month f.name.text) abbreviations

-- the text of the joined date, if a field is one of its parts
abbrev pub date_if_part : Option (List ℕ) → FieldReading → Option (List ℕ)
date_if_part joined f = if is_date_part f then joined else None

-- the replacement of a field: another name, the text that styles print for a type, the fields of the parts of a date, or a date instead
-- of its parts. `with_parts` has the sides, and whether the file defines the abbreviation of a month
pub data Replacement : Type 0 where
  with_name : List ℕ → Replacement
  with_type : List ℕ → Replacement
  with_parts : Bool → Sides → Replacement
  with_date : List ℕ → Replacement

-- the replacement by the first of these that isn't missing: a joined date, another name, a type, the sides of a date
abbrev pub first_replacement : Bool → Option (List ℕ) → Option (List ℕ) → Option PrintedType → Option Sides → Option Replacement
first_replacement defines (Some date) name type sides = Some (Replacement.with_date date)
first_replacement defines None (Some name) type sides = Some (Replacement.with_name name)
first_replacement defines None None (Some type) sides = Some (Replacement.with_type type.text)
first_replacement defines None None None (Some sides) = Some (Replacement.with_parts defines sides)
first_replacement defines None None None None = None

-- a type, if a field's name is `type`
abbrev pub type_if_named : Option PrintedType → FieldReading → Option PrintedType
type_if_named type f = if has_name (codes "type") f then type else None

-- the replacement of an entry's field, if there is one. `defines` is whether the file defines the abbreviation of a month.
abbrev pub field_replacement : Dialect → Bool → List ℕ → EntryReading → FieldReading → Option Replacement
field_replacement dialect defines text e f =
    first_replacement defines (date_if_part (joined_date dialect defines text e.fields) f) (new_field_name dialect e f)
    (type_if_named (printed_type dialect (entry_type_of e.kind.text) e.fields) f) (date_to_divide dialect e f)

-- a field `date`
abbrev pub date_field : List ℕ → NewField
date_field date = braced_field (codes "date") date

-- whether a field can be removed: another one follows, with no comment between the two
abbrev pub can_be_removed : List ℕ → FieldReading → List FieldReading → Bool
can_be_removed text f [] = false
can_be_removed text f (g ∷ gs) = is_comment_free text f (g ∷ gs)

-- the change of a field, by its replacement. `fields` are those of its entry, and `following` are those after it. The last part of a date
-- is replaced by the date, and the parts before it are removed. A `type` that became the entry's type is removed. If it can't be, its value
-- becomes the text that styles print for the type. New fields have the layout of the field that they replace: the white space before its
-- name is before each of them, and `sign_at` is between their names and values.
abbrev pub field_change : List ℕ → List FieldReading → FieldReading → List FieldReading → Option Replacement → FieldChange
field_change text fields f following None = FieldChange.kept
field_change text fields f following (Some (Replacement.with_name name)) = FieldChange.renamed name
field_change text fields f following (Some (Replacement.with_type printed)) =
    if can_be_removed text f following then FieldChange.removed else FieldChange.valued (braced_value printed)
field_change text fields f following (Some (Replacement.with_parts defines sides)) =
    FieldChange.replaced (sign_at text f fields) (side_year from_names sides.from)
    (more_fields defines from_names sides.from ++ to_fields defines sides.to) (white_before text f.name.start)
field_change text fields f following (Some (Replacement.with_date date)) =
    if list_any is_date_part following then FieldChange.removed
    else FieldChange.replaced (sign_at text f fields) (date_field date) [] []

-- the changes of the last fields of an entry, by the replacement of each; `fields` are all fields of the entry
abbrev pub field_changes : List ℕ → List FieldReading → (FieldReading → Option Replacement) → List FieldReading → List FieldChange
field_changes text fields replacement [] = []
field_changes text fields replacement (f ∷ fs) = field_change text fields f fs (replacement f) ∷ field_changes text fields replacement fs

-- a new field before a field that is kept, with the layout of this field
abbrev pub preceded_by : List ℕ → List FieldReading → FieldReading → NewField → FieldChange
preceded_by text fields f new = FieldChange.preceded new (sign_at text f fields new.name) (white_before text f.name.start)

-- these changes of the last fields of an entry, with a new field before the first field that is kept
abbrev pub with_field_before_kept : List ℕ → List FieldReading → NewField → List FieldReading → List FieldChange → List FieldChange
with_field_before_kept text fields new [] changes = changes
with_field_before_kept text fields new (f ∷ fs) [] = []
with_field_before_kept text fields new (f ∷ fs) (FieldChange.kept ∷ changes) = preceded_by text fields f new ∷ changes
with_field_before_kept text fields new (f ∷ fs) (change ∷ changes) = change ∷ with_field_before_kept text fields new fs changes

-- these changes of the last fields of an entry. If the value of a missing `type` is given, a new field `type` is before the first field
-- that is kept
abbrev pub with_missing_type : List ℕ → List FieldReading → Option (List ℕ) → List FieldReading → List FieldChange → List FieldChange
with_missing_type text fields None fs changes = changes
with_missing_type text fields (Some value) fs changes = with_field_before_kept text fields (type_field value) fs changes

-- whether at least one field is kept
abbrev pub keeps_one : (FieldReading → Option Replacement) → List FieldReading → Bool
keeps_one replacement fields = list_any (λ f. not (is_some (replacement f))) fields

-- the new name of an entry's type, if it is replaced: the type of BibTeX that its field `type` means, or else the dialect's type.
-- If a missing field `type` can't be added, since no field is kept, the type is kept too.
abbrev pub type_for : Dialect → EntryType → Option PrintedType → Option (List ℕ) → Bool → Option (List ℕ)
type_for dialect kind (Some type) missing keeps = Some type.name
type_for dialect kind None None keeps = other_type dialect kind
type_for dialect kind None (Some value) keeps = if keeps then other_type dialect kind else None

-- the change of an entry for a dialect. `defines` is whether the file defines the abbreviation of a month.
abbrev pub conversion : Dialect → Bool → List ℕ → EntryReading → EntryChange
conversion dialect defines text e =
    let kind = entry_type_of e.kind.text in
    let replacement = field_replacement dialect defines text e in
    let missing = missing_type dialect kind e.fields in
    record {
      kind = type_for dialect kind (printed_type dialect kind e.fields) missing (keeps_one replacement e.fields);
      fields = with_missing_type text e.fields missing e.fields (field_changes text e.fields replacement e.fields);
    }

-- the changes of a document's entries for a dialect
abbrev pub document_conversion : Dialect → Document → EntryReading → EntryChange
document_conversion dialect d = conversion dialect (defines_month d.says.abbreviations) d.text

-- a text is that of a document converted to a dialect, and it parses to the converted entries, except for byte offsets
abbrev pub IsConverted : Dialect → Document → List ℕ → Type 0
IsConverted dialect d text = IsChanged (document_conversion dialect d) d text
