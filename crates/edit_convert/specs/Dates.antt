-- Meaning: words of public contracts.
-- The parts of a date in fields of their own, for BibTeX. Years and days are copied from the date.
use Rattle.std.specs.Prelude.{ℕ, Bool, ◌&&◌, ◌==◌, if◌then◌else◌, List, [], ◌∷◌, ◌++◌, length, codes, is_some, Option, Some, None}
use Rattle.std.specs.Char.{is_ascii_digit}
use Rattle.std.specs.List.{list_all, slice_split}
use Rattle.bib_text.specs.Characters as char
use Rattle.bib_text.specs.Enums.{value_named}
use Rattle.bib_tables.specs.Months.{month_abbreviation, month_name}
use Rattle.bib_tables.specs.declared.months.Month.{Month}
use Rattle.bib_tables.specs.declared.months.Month.TheVariants.{January, February, March, April, May, June, July, August, September, October, November, December}
use Rattle.bib_dates.specs.Dates.{date_of}
use Rattle.bib_dates.specs.Readings.{readable_value}
use Rattle.edit_strings.specs.Collected.{name_value}
use Rattle.edit_entries.specs.Changes.{NewField, braced_field, field_text_by, more_field_texts}

-- a field whose value is an abbreviation
abbrev pub bare_field : List ℕ → List ℕ → NewField
bare_field name abbreviation = record { name = name; value = name_value abbreviation }

-- the months by their numbers in a date
abbrev pub numbered_months : List (List ℕ × Month)
numbered_months =
    (codes "01", January) ∷ (codes "02", February) ∷ (codes "03", March) ∷ (codes "04", April) ∷ (codes "05", May) ∷ (codes "06", June)
    ∷ (codes "07", July) ∷ (codes "08", August) ∷ (codes "09", September) ∷ (codes "10", October) ∷ (codes "11", November)
    ∷ (codes "12", December) ∷ []

-- a side of a date: its year, and its month and day if it has them
pub record Side : Type 0 where
  pub year : List ℕ
  pub month : Option Month
  pub day : Option (List ℕ)

-- whether a text is a number of `count` ASCII digits
abbrev pub are_digits : ℕ → List ℕ → Bool
are_digits count text = (length text == count) && list_all is_ascii_digit text

-- a side with a month, if the month is known
abbrev pub month_side : List ℕ → Option Month → Option (List ℕ) → Option Side
month_side year None day = None
month_side year (Some month) day = Some (record { year = year; month = Some month; day = day })

-- the side with these parts: a year in four ASCII digits, and perhaps a month and a day in two each
abbrev pub side_of : List (List ℕ) → Option Side
side_of [] = None
side_of (year ∷ []) = if are_digits 4 year then Some (record { year = year; month = None; day = None }) else None
side_of (year ∷ month ∷ []) = if are_digits 4 year then month_side year (value_named numbered_months month) None else None
side_of (year ∷ month ∷ day ∷ []) =
    if are_digits 4 year && are_digits 2 day then month_side year (value_named numbered_months month) (Some day) else None
side_of (year ∷ month ∷ day ∷ other ∷ rest) = None

-- the side whose parts are separated by hyphens in a text
abbrev pub side_in : List ℕ → Option Side
side_in text = side_of (slice_split (λ c. c == char.hyphen) text)

-- a date, or the two sides of a range
pub record Sides : Type 0 where
  pub from : Side
  pub to : Option Side

-- a date with one side
abbrev pub one_side : Option Side → Option Sides
one_side None = None
one_side (Some side) = Some (record { from = side; to = None })

-- a range with two sides
abbrev pub two_sides : Option Side → Option Side → Option Sides
two_sides None to = None
two_sides (Some from) None = None
two_sides (Some from) (Some to) = Some (record { from = from; to = Some to })

-- the date with one side, or the range with two
abbrev pub sides_of : List (List ℕ) → Option Sides
sides_of [] = None
sides_of (from ∷ []) = one_side (side_in from)
sides_of (from ∷ to ∷ []) = two_sides (side_in from) (side_in to)
sides_of (from ∷ to ∷ other ∷ rest) = None

-- the sides of a date or a range that can be divided into fields. It parses as a date, and each side is a year in four ASCII digits,
-- perhaps with a month and a day in two each
abbrev pub date_sides : List ℕ → Option Sides
date_sides text = if is_some (readable_value (date_of text)) then sides_of (slice_split (λ c. c == char.slash) text) else None

-- the names of a side's fields
pub record SideNames : Type 0 where
  pub year : List ℕ
  pub month : List ℕ
  pub day : List ℕ

-- the names with a prefix
abbrev pub names_after : List ℕ → SideNames
names_after prefix = record { year = prefix ++ codes "year"; month = prefix ++ codes "month"; day = prefix ++ codes "day" }

-- the names for a date, and for the first side of a range
abbrev pub from_names : SideNames
from_names = names_after []

-- the names for the second side of a range
abbrev pub to_names : SideNames
to_names = names_after (codes "end")

-- the names of the fields of both sides
abbrev pub part_names : List (List ℕ)
part_names = codes "year" ∷ codes "month" ∷ codes "day" ∷ codes "endyear" ∷ codes "endmonth" ∷ codes "endday" ∷ []

-- the field of a month: its abbreviation, or its name if the file defines the abbreviation of a month
abbrev pub month_as_field : Bool → List ℕ → Month → NewField
month_as_field defines name month = if defines then braced_field name (month_name month) else bare_field name (month_abbreviation month)

-- the field of a month, if there is one
abbrev pub month_fields : Bool → List ℕ → Option Month → List NewField
month_fields defines name None = []
month_fields defines name (Some month) = month_as_field defines name month ∷ []

-- the field of a day, if there is one
abbrev pub day_fields : List ℕ → Option (List ℕ) → List NewField
day_fields name None = []
day_fields name (Some day) = braced_field name day ∷ []

-- the fields of a side after its year
abbrev pub more_fields : Bool → SideNames → Side → List NewField
more_fields defines names side = month_fields defines names.month side.month ++ day_fields names.day side.day

-- the field of a side's year
abbrev pub side_year : SideNames → Side → NewField
side_year names side = braced_field names.year side.year

-- the fields of a second side, if there is one
abbrev pub to_fields : Bool → Option Side → List NewField
to_fields defines None = []
to_fields defines (Some side) = side_year to_names side ∷ more_fields defines to_names side

-- the text of the fields of a date's parts. `sign` returns the text between a name and its value. A comma and the text `white` separate the
-- fields.
abbrev pub written_sides : (List ℕ → List ℕ) → List ℕ → Bool → Sides → List ℕ
written_sides sign white defines sides =
    field_text_by sign (side_year from_names sides.from)
    ++ more_field_texts sign white (more_fields defines from_names sides.from ++ to_fields defines sides.to)
