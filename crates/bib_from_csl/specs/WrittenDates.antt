-- Meaning: words of public contracts.
-- The values of date fields, in the format of BibLaTeX (ISO 8601-2).
use Rattle.std.specs.Prelude.{ℕ, ◌-◌, ◌==◌, ◌&&◌, ◌||◌, Bool, false, not, nat_lt, if◌then◌else◌, ℤ, pos, neg_ℤ, ◌+ℤ◌, List, [], ◌∷◌, ◌++◌, length, codes, Option, Some, None, is_some, option_map, option_and_then}
use Rattle.std.specs.Ordering.{int_cmp, int_eq, is_lt}
use Rattle.bib_dates.specs.Written.{datetime_text, date_text}
use Rattle.bib_dates.specs.declared.date.Date.{Date}
use Rattle.bib_dates.specs.declared.date.DateValue.{DateValue}
use Rattle.bib_dates.specs.declared.date.DateValue.TheVariants.{At, After, Before, Between}
use Rattle.bib_dates.specs.declared.date.Datetime.{Datetime}
use Rattle.bib_csl.specs.declared.item.DateParts.{DateParts}
use Rattle.bib_csl.specs.declared.item.ItemDate.{ItemDate}
use Rattle.bib_csl.specs.declared.item.Season.{Season}
use Rattle.bib_csl.specs.declared.item.Season.TheVariants.{Spring, Summer, Autumn, Winter}
use Rattle.bib_from_csl.specs.Tags.{spelled_text}
use Rattle.bib_from_csl.specs.Values.{braced}

-- a year as BibLaTeX counts it, with 0 for the year before 1; `None` if it then has more than four digits
abbrev pub counted_year : ℤ → Option ℤ
counted_year year =
    if is_lt (int_cmp year (neg_ℤ (pos 10000))) || is_lt (int_cmp (pos 9999) year) then None
    else if is_lt (int_cmp year (pos 0)) then Some (year +ℤ pos 1)
    else Some year

-- a number from 1 to `last` as one that counts from 0; `None` for another number
abbrev pub from_zero : ℕ → ℕ → Option ℕ
from_zero number last = if nat_lt number 1 || nat_lt last number then None else Some (number - 1)

-- an optional number from 1 to `last` as one that counts from 0; `None` if it is out of range
abbrev pub counted_part : Option ℕ → ℕ → Option (Option ℕ)
counted_part None last = Some None
counted_part (Some number) last = option_map Some (from_zero number last)

-- the date of a year, a month and a day, unless one is out of range
abbrev pub datetime_of_counts : Option ℤ → Option (Option ℕ) → Option (Option ℕ) → Option Datetime
datetime_of_counts year month day =
    option_and_then (λ y. option_and_then (λ m. option_map (λ d. record { year = y; month = m; day = d; time = None }) day) month) year

-- the date of parts, unless one is out of range
abbrev pub datetime_of : DateParts → Option Datetime
datetime_of p = datetime_of_counts (counted_year p.year) (counted_part p.month 12) (counted_part p.day 31)

-- whether a date represents the open side of a range: the year 0, which CSL doesn't count, without a month and a day
abbrev pub is_open_side : DateParts → Bool
is_open_side p = int_eq p.year (pos 0) && (not (is_some p.month) && not (is_some p.day))

-- a range, if it has both dates
abbrev pub range_between : Option Datetime → Option Datetime → Option DateValue
range_between start end = option_and_then (λ a. option_map (Between a) end) start

-- a range, which may have an open side
abbrev pub range_with_sides : DateParts → DateParts → Option DateValue
range_with_sides start end =
    if is_open_side end then option_map After (datetime_of start)
    else if is_open_side start then option_map Before (datetime_of end)
    else range_between (datetime_of start) (datetime_of end)

-- the value for one date, or for the two dates of a range
abbrev pub dates_value : List DateParts → Option DateValue
dates_value [] = None
dates_value (only ∷ []) = option_map At (datetime_of only)
dates_value (start ∷ end ∷ []) = range_with_sides start end
dates_value (start ∷ end ∷ more ∷ rest) = None

-- the last digit of the number of a season in ISO 8601-2 (21 to 24)
abbrev pub season_digit : Season → List ℕ
season_digit Spring = codes "1"
season_digit Summer = codes "2"
season_digit Autumn = codes "3"
season_digit Winter = codes "4"

-- the first of these dates; `None` if there is none, or if one of its parts is out of range
abbrev pub date_of_first : List DateParts → Option Datetime
date_of_first [] = None
date_of_first (first ∷ rest) = datetime_of first

-- a date without its month, day and time
abbrev pub only_year : Datetime → Datetime
only_year date = record { year = date.year; month = None; day = None; time = None }

-- the year of the first date with the number of a season after it, such as `2020-21`; `None` if there is no such date
abbrev pub season_text : List DateParts → Season → Option (List ℕ)
season_text parts season =
    option_map (λ first. datetime_text (only_year first) ++ (codes "-2" ++ season_digit season)) (date_of_first parts)

-- the mark of an approximate date
abbrev pub circa_mark : Bool → List ℕ
circa_mark circa = if circa then codes "~" else []

-- a date or a range, approximate or not
abbrev pub date_with : DateValue → Bool → Date
date_with value circa = record { value = value; uncertain = false; approximate = circa }

-- the text of one or two dates; `None` if BibLaTeX can't write them
abbrev pub parts_text : List DateParts → Bool → Option (List ℕ)
parts_text parts circa = option_map (λ value. date_text (date_with value circa)) (dates_value parts)

-- the text of a date with a text of its own; the mark of an approximate date is only added if the date has parts
unfoldable pub literal_source : List ℕ → ItemDate → List ℕ
literal_source literal date = spelled_text literal ++ circa_mark (date.circa && not (length date.parts == 0))

-- the text of a date without a season
abbrev pub literal_or_parts_text : Option (List ℕ) → ItemDate → Option (List ℕ)
literal_or_parts_text (Some literal) date = Some (literal_source literal date)
literal_or_parts_text None date = parts_text date.parts date.circa

-- the text of a date; the first argument is its season if it has one
abbrev pub season_or_text : Option Season → ItemDate → Option (List ℕ)
season_or_text (Some season) date = season_text date.parts season
season_or_text None date = literal_or_parts_text date.literal date

-- the text of a date: that of its season if it has one, or else its own text, or else that of its parts
unfoldable pub text_of_item : ItemDate → Option (List ℕ)
text_of_item date = season_or_text date.season date

-- the value of a date field, if the date can be written
abbrev pub date_source : ItemDate → Option (List ℕ)
date_source date = option_map braced (text_of_item date)
