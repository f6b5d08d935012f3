-- Meaning: words of public contracts.
-- Laws of conversion.
use Rattle.std.specs.Prelude.{◌≡◌, ℕ, Bool, false, List, codes, Some}
use Rattle.std.specs.List.{find, list_any}
use Rattle.bib_syntax.specs.Reading.{EntryReading, FieldReading}
use Rattle.bib_tables.specs.declared.dialects.Dialect.{Dialect}
use Rattle.edit_entries.specs.Documents.{has_name}
use Rattle.bib_dates.specs.Dates.{date_of}
use Rattle.bib_dates.specs.ThreeFields.{three_fields_of}
use Rattle.edit_convert.specs.Conversions.{date_to_divide, is_field_there, joined_date, literal_of, month_of, new_field_name}
use Rattle.edit_convert.specs.Dates.{Sides, part_names}

-- the new name of a field is not that of another field of its entry
abbrev pub NamesStayApart : Type 0
NamesStayApart =
    (dialect : Dialect) (e : EntryReading) (f : FieldReading) (name : List ℕ) → new_field_name dialect e f ≡ Some name
    → is_field_there e.fields name ≡ false

-- a date is replaced by fields of its parts only if its entry has none of these fields
abbrev pub PartsStayApart : Type 0
PartsStayApart =
    (dialect : Dialect) (e : EntryReading) (f : FieldReading) (sides : Sides) → date_to_divide dialect e f ≡ Some sides
    → list_any (is_field_there e.fields) part_names ≡ false

-- the text of a date is parsed as the date of the year, the month and perhaps the day among some fields
pub record IsDateOfParts (defines : Bool) (fields : List FieldReading) (date : List ℕ) : Type 0 where
  pub year : List ℕ
  pub month : List ℕ
  pub year_is : literal_of (find (has_name (codes "year")) fields) ≡ Some year
  pub month_is : month_of defines (find (has_name (codes "month")) fields) ≡ Some month
  pub same : date_of date ≡ three_fields_of year (Some month) (literal_of (find (has_name (codes "day")) fields))

-- the date that replaces its parts is parsed as the date of these parts
abbrev pub JoinedIsTheSame : Type 0
JoinedIsTheSame =
    (dialect : Dialect) (defines : Bool) (text : List ℕ) (e : EntryReading) (date : List ℕ)
    → joined_date dialect defines text e.fields ≡ Some date → IsDateOfParts defines e.fields date

-- the parts of a date are joined only if their entry has no field `date`
abbrev pub JoinedStaysApart : Type 0
JoinedStaysApart =
    (dialect : Dialect) (defines : Bool) (text : List ℕ) (e : EntryReading) (date : List ℕ)
    → joined_date dialect defines text e.fields ≡ Some date → is_field_there e.fields (codes "date") ≡ false
