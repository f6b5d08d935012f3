-- Meaning: words of public contracts.
-- Dates whose year, month and day are in three fields.
use Rattle.std.specs.Prelude.{Bool, not, ◌&&◌, List, ℕ, Option, None, Some, bytes_eq, codes, if◌then◌else◌, is_some}
use Rattle.std.specs.FinMap as by_name
use Rattle.bib_chunks.specs.declared.chunk.Chunk.TheVariants.{Normal}
use Rattle.bib_chunks.specs.Values.{Value, alone}
use Rattle.bib_dates.specs.Chunks.{three_fields_reading}
use Rattle.bib_dates.specs.Readings.{readable_value}
use Rattle.bib_dates.specs.declared.date.Date.{Date}
use Rattle.bib_entry.specs.declared.entry.Entry.{Entry}

-- the field that contains the year of this date, if the date is in separate fields; any other name is unchanged
abbrev pub name_of_year : List ℕ → List ℕ
name_of_year name =
    if bytes_eq name (codes "date") then codes "year" else if bytes_eq name (codes "eventdate") then codes "eventyear"
    else if bytes_eq name (codes "origdate") then codes "origyear" else if bytes_eq name (codes "urldate") then codes "urlyear" else name

-- the field that contains the month of this date, if the date is in separate fields; any other name is unchanged
abbrev pub name_of_month : List ℕ → List ℕ
name_of_month name =
    if bytes_eq name (codes "date") then codes "month" else if bytes_eq name (codes "eventdate") then codes "eventmonth"
    else if bytes_eq name (codes "origdate") then codes "origmonth" else if bytes_eq name (codes "urldate") then codes "urlmonth" else name

-- the field that contains the day of this date, if the date is in separate fields; any other name is unchanged
abbrev pub name_of_day : List ℕ → List ℕ
name_of_day name =
    if bytes_eq name (codes "date") then codes "day" else if bytes_eq name (codes "eventdate") then codes "eventday"
    else if bytes_eq name (codes "origdate") then codes "origday" else if bytes_eq name (codes "urldate") then codes "urlday" else name

-- the date that the library reads from a year, a month and a day, if they can be parsed
abbrev pub parts_read : Value → Option Value → Option Value → Option Date
parts_read year month day = readable_value (three_fields_reading year month day)

-- the first day of a month
abbrev pub first_day : Value
first_day = alone (Normal (codes "1"))

-- whether the day makes a date malformed whose year can be parsed: the month can be parsed with another day
abbrev pub is_malformed_day : Value → Option Value → Option Value → Bool
is_malformed_day year month day = is_some day && is_some (parts_read year month (Some first_day))

-- the name of the first of the year, the month and the day of this malformed date that can't be parsed. Without a year, the name is
-- unchanged
abbrev pub malformed_part_of : List ℕ → Option Value → Option Value → Option Value → List ℕ
malformed_part_of name None month day = name
malformed_part_of name (Some year) month day =
    if not (is_some (parts_read year None None)) then name_of_year name
    else if is_malformed_day year month day then name_of_day name else name_of_month name

-- the name of the first of the year, the month and the day of an entry that can't be parsed, if this is a malformed date in separate
-- fields. Any other name, and that of a date without a year, is unchanged
abbrev pub malformed_part : Entry → List ℕ → List ℕ
malformed_part entry name =
    malformed_part_of name (by_name.get entry.fields (name_of_year name)) (by_name.get entry.fields (name_of_month name))
    (by_name.get entry.fields (name_of_day name))
