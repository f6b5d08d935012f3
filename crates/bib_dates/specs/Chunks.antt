-- Meaning: words of public contracts.
-- Dates as values of fields.
use Rattle.std.specs.Prelude.{ℕ, ℤ, Option, Some, None, Result}
use Rattle.std.specs.Option.{option_map}
use Rattle.std.specs.declared.ops.Range.{Range}
use Rattle.bib_tables.specs.declared.type_error.TypeError.{TypeError}
use Rattle.bib_tables.specs.declared.type_error.TypeErrorKind.{TypeErrorKind}
use Rattle.bib_chunks.specs.declared.chunk.Chunk.TheVariants.{Normal}
use Rattle.bib_chunks.specs.Styled.{whole_span}
use Rattle.bib_chunks.specs.Values.{Value, text, alone}
use Rattle.bib_tables.specs.ReadAs.{IsReadAs}
use Rattle.bib_dates.specs.declared.date.Date.{Date}
use Rattle.bib_dates.specs.Readings.{Reading, Parsed, readable_value, MayRefuse}
use Rattle.bib_dates.specs.Readings.Reading.{says}
use Rattle.bib_dates.specs.Dates.{date_of}
use Rattle.bib_dates.specs.ThreeFields.{year_field, month_field, day_place, three_fields_of}
use Rattle.bib_dates.specs.Written.{date_text}

-- a result meets a reading: it is the value, an error of the specified kind, or out of memory. If no kind is specified,
-- the error has one of four.
abbrev pub AnswersReading : {A : Type 0} → Reading A → Result A TypeError → Type 0
AnswersReading reading result = IsReadAs (λ value. value) (readable_value reading) (MayRefuse reading) result

-- the result of parsing the formatted text of chunks
abbrev pub date_reading : Value → Reading Date
date_reading chunks = date_of (text chunks)

-- the date parsed from the formatted text of chunks, if it can be parsed
abbrev pub date_read : Value → Option Date
date_read chunks = readable_value (date_reading chunks)

-- the kinds of errors that parsing these chunks as a date may return, except out of memory
abbrev pub DateMayRefuse : Value → TypeErrorKind → Type 0
DateMayRefuse chunks kind = MayRefuse (date_reading chunks) kind

-- a date's text as one normal chunk
abbrev pub date_written : Date → Value
date_written d = alone (Normal (date_text d))

-- the result of parsing the formatted texts of a year, a month and a day
abbrev pub three_fields_reading : Value → Option Value → Option Value → Reading Date
three_fields_reading year month day = three_fields_of (text year) (option_map text month) (option_map text day)

-- the span of an error of the month or the day, by the result of parsing the month. If that failed, it is the span
-- of the month's chunks. Otherwise it is that of the day's chunks or, without these, of the day after the month.
abbrev pub day_error_place : Value → Option Value → Parsed (Option ℕ) → Range ℕ
day_error_place month (Some day) (says read) = whole_span day
day_error_place month None (says read) = day_place (text month) read.1
day_error_place month day other = whole_span month

-- the span of an error of the month, or of the day in its own field or after the month
abbrev pub month_error_place : Value → Option Value → Range ℕ
month_error_place month day = day_error_place month day (month_field (text month))

-- the span of an error of the month or the day; without a month there is no such error, and the span is `nowhere`
abbrev pub parts_error_place : Range ℕ → Option Value → Option Value → Range ℕ
parts_error_place nowhere None day = nowhere
parts_error_place nowhere (Some month) day = month_error_place month day

-- the span of an error of three fields, by the result of parsing the year
abbrev pub year_error_place : Value → Option Value → Option Value → Reading ℤ → Range ℕ
year_error_place year month day (says read) = parts_error_place (whole_span year) month day
year_error_place year month day other = whole_span year

-- the span of an error of three fields: that of the first one that can't be parsed, or of a day after the month (`day_place`)
abbrev pub three_fields_place : Value → Option Value → Option Value → Range ℕ
three_fields_place year month day = year_error_place year month day (year_field (text year))
