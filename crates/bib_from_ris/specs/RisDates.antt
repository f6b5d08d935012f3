-- Meaning: words of public contracts.
-- The dates in lines of RIS: `2020/05/12/text`, where the month, the day and the text can be missing.
use Rattle.std.specs.Prelude.{ℕ, Bool, true, false, ◌==◌, ◌&&◌, ◌||◌, if◌then◌else◌, List, [], ◌∷◌, length, bytes_eq, Option, Some, None, option_and_then}
use Rattle.std.specs.List.{before_first, after_first}
use Rattle.bib_text.specs.Characters as char
use Rattle.bib_csl.specs.declared.item.DateParts.{DateParts}
use Rattle.bib_csl.specs.declared.item.ItemDate.{ItemDate}
use Rattle.bib_from_csl.specs.GivenDates.{of_day, of_month, of_year, said_date, sixteen_bits}
use Rattle.bib_values.specs.Numbers.{decimal_of}
use Rattle.bib_from_ris.specs.Lines.{left_of_hyphen}

-- the text before the first slash
abbrev pub left_of_slash : List ℕ → List ℕ
left_of_slash text = before_first (λ b. b == char.slash) text

-- the text after the first slash, or nothing without a slash
abbrev pub right_of_slash : List ℕ → List ℕ
right_of_slash text = after_first (λ b. b == char.slash) text

-- the year of a date
abbrev pub year_portion : List ℕ → List ℕ
year_portion text = left_of_slash text

-- the month of a date, or nothing
abbrev pub month_portion : List ℕ → List ℕ
month_portion text = left_of_slash (right_of_slash text)

-- the day of a date, or nothing
abbrev pub day_portion : List ℕ → List ℕ
day_portion text = left_of_slash (right_of_slash (right_of_slash text))

-- the text after the day of a date, or nothing
abbrev pub remark_portion : List ℕ → List ℕ
remark_portion text = right_of_slash (right_of_slash (right_of_slash text))

-- the number of a month or a day
abbrev pub month_or_day : List ℕ → Option ℕ
month_or_day text = option_and_then sixteen_bits (decimal_of text)

-- a date with this year, this month and this day, if each is a number; the day, or both the month and the day, can be empty
unfoldable pub parted_day : List ℕ → List ℕ → List ℕ → Option DateParts
parted_day year month day =
    if length day == 0 then if length month == 0 then of_year (decimal_of year) else of_month (decimal_of year) (month_or_day month)
    else of_day (decimal_of year) (month_or_day month) (month_or_day day)

-- a date with these parts
abbrev pub of_parts : DateParts → ItemDate
of_parts parts = record { parts = parts ∷ []; season = None; circa = false; literal = None }

-- a date with these parts, or else that of the text
abbrev pub parted_or_said : Option DateParts → List ℕ → Option ItemDate
parted_or_said (Some parts) text = Some (of_parts parts)
parted_or_said None text = said_date text

-- the date of a text: by its parts, or else as in a date field
unfoldable pub ris_date : List ℕ → Option ItemDate
ris_date text = parted_or_said (parted_day (year_portion text) (month_portion text) (day_portion text)) text

-- whether a date has no text after the day, or is not a date with parts, so that no part of it is lost
abbrev pub has_no_remark : Option DateParts → List ℕ → Bool
has_no_remark None text = true
has_no_remark (Some parts) text = length (remark_portion text) == 0

-- whether no part of the text of a date is missing from `ris_date`
unfoldable pub has_whole_date : List ℕ → Bool
has_whole_date text = has_no_remark (parted_day (year_portion text) (month_portion text) (day_portion text)) text

-- whether a date has no month, no day and no text after the day
abbrev pub is_only_year : List ℕ → Bool
is_only_year text = (length (month_portion text) == 0) && ((length (day_portion text) == 0) && (length (remark_portion text) == 0))

-- whether the text before the first slash or hyphen of a date is this year
abbrev pub has_year : List ℕ → List ℕ → Bool
has_year year day = bytes_eq year (year_portion day) || bytes_eq year (left_of_hyphen day)

-- whether `year`, the text of the tag PY or Y1, is part of `day`, the text of the tag DA: it is only a year, and it is that of `day`
unfoldable pub is_year_of : List ℕ → List ℕ → Bool
is_year_of year day = is_only_year year && has_year (year_portion year) day
