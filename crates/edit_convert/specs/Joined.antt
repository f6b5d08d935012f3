-- Meaning: words of public contracts.
-- A year, a month and perhaps a day joined to the text of one date, as in BibLaTeX. Their fields are parsed as this date.
use Rattle.std.specs.Prelude.{ℕ, Bool, true, ◌&&◌, ◌||◌, if◌then◌else◌, List, [], ◌∷◌, is_some, not, Option, Some, None}
use Rattle.std.specs.Char.{is_ascii_alphabetic}
use Rattle.std.specs.List.{list_all}
use Rattle.bib_tables.specs.Months.{month_of_abbreviation}
use Rattle.bib_syntax.specs.Reading.{Piece}
use Rattle.bib_syntax.specs.Reading.Piece.{literal, abbreviation}
use Rattle.bib_dates.specs.declared.date.Date.{Date}
use Rattle.bib_dates.specs.Dates.{date_of}
use Rattle.bib_dates.specs.Readings.{readable_value}
use Rattle.bib_dates.specs.ThreeFields.{three_fields_of}
use Rattle.bib_dates.specs.Written.{datetime_text, first_side}
use Rattle.edit_strings.specs.Collected.{is_month}
use Rattle.edit_convert.specs.Dates.{are_digits}

-- whether a text is a number of one or two ASCII digits
abbrev pub is_short_number : List ℕ → Bool
is_short_number text = are_digits 1 text || are_digits 2 text

-- whether a text is a number of one or two ASCII digits, or has only ASCII letters, as the name of a month does; it may be empty
abbrev pub is_month_alone : List ℕ → Bool
is_month_alone text = is_short_number text || list_all is_ascii_alphabetic text

-- whether there is no day, or the day is a number of one or two ASCII digits
abbrev pub is_day_alone : Option (List ℕ) → Bool
is_day_alone None = true
is_day_alone (Some text) = is_short_number text

-- the text of the first side of a date, if it has a month and the text parses as a date
abbrev pub month_date_text : Option Date → Option (List ℕ)
month_date_text None = None
month_date_text (Some d) =
    if is_some (first_side d.value).month && is_some (readable_value (date_of (datetime_text (first_side d.value))))
    then Some (datetime_text (first_side d.value)) else None

-- the text of the date that a year, a month and perhaps a day are parsed as. `None` if the year isn't four ASCII digits, or the day isn't
-- one or two. `None` also if the month names no month, or if they are no date
abbrev pub joined_text : List ℕ → List ℕ → Option (List ℕ) → Option (List ℕ)
joined_text year month day =
    if are_digits 4 year && (is_month_alone month && is_day_alone day)
    then month_date_text (readable_value (three_fields_of year (Some month) day)) else None

-- the text of a month: one literal, or the abbreviation of a month if the file defines no such abbreviation
abbrev pub month_value : Bool → List Piece → Option (List ℕ)
month_value defines [] = None
month_value defines (literal p ∷ []) = Some p.text
month_value defines (literal p ∷ other ∷ rest) = None
month_value defines (abbreviation p ∷ []) = if is_month p.text && not defines then Some p.text else None
month_value defines (abbreviation p ∷ other ∷ rest) = None
