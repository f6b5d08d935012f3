-- Meaning: words of public contracts.
-- The dates of items of CSL-JSON.
use Rattle.std.specs.Prelude.{ℕ, ◌+◌, ◌^◌, Bool, false, ◌==◌, nat_lt, if◌then◌else◌, ℤ, pos, negsuc, List, [], ◌∷◌, codes, bytes_eq, Option, Some, None, is_some, unwrap_or, option_and_then, option_map}
use Rattle.std.specs.Option.{option_or}
use Rattle.json.specs.Json.{Json}
use Rattle.json.specs.Find.{as_bool, get}
use Rattle.bib_chunks.specs.declared.chunk.Chunk.TheVariants.{Normal}
use Rattle.bib_chunks.specs.Values.{alone}
use Rattle.bib_dates.specs.Chunks.{date_read}
use Rattle.bib_csl.specs.Dates.{read_or_unread}
use Rattle.bib_csl.specs.declared.item.DateParts.{DateParts}
use Rattle.bib_csl.specs.declared.item.ItemDate.{ItemDate}
use Rattle.bib_csl.specs.declared.item.Season.{Season}
use Rattle.bib_csl.specs.declared.item.Season.TheVariants.{Spring, Summer, Autumn, Winter}
use Rattle.bib_from_csl.specs.Objects.{array_elements, one_if, object_size, string_under, text_under, whole_number}

-- a number from 0 to 2^16 - 1
abbrev pub sixteen_bits : ℤ → Option ℕ
sixteen_bits (pos n) = if nat_lt n (2 ^ 16) then Some n else None
sixteen_bits (negsuc n) = None

-- the number of a month or a day, if it is from 0 to 2^16 - 1
abbrev pub small_count : Json → Option ℕ
small_count j = option_and_then sixteen_bits (whole_number j)

-- a year as a date, if it is a number
abbrev pub of_year : Option ℤ → Option DateParts
of_year year = option_map (λ y. record { year = y; month = None; day = None }) year

-- a year and a month as a date, if both are numbers
abbrev pub of_month : Option ℤ → Option ℕ → Option DateParts
of_month year month = option_and_then (λ y. option_map (λ m. record { year = y; month = Some m; day = None }) month) year

-- a year, a month and a day as a date, if all are numbers
abbrev pub of_day : Option ℤ → Option ℕ → Option ℕ → Option DateParts
of_day year month day =
    option_and_then (λ y. option_and_then (λ m. option_map (λ d. record { year = y; month = Some m; day = Some d }) day) month) year

-- the year, the month and the day of a list of one to three numbers, which may be texts
abbrev pub day_of_numbers : List Json → Option DateParts
day_of_numbers [] = None
day_of_numbers (year ∷ []) = of_year (whole_number year)
day_of_numbers (year ∷ month ∷ []) = of_month (whole_number year) (small_count month)
day_of_numbers (year ∷ month ∷ day ∷ []) = of_day (whole_number year) (small_count month) (small_count day)
day_of_numbers (year ∷ month ∷ day ∷ more ∷ rest) = None

-- the date of a value that is an array of one to three numbers, as in `day_of_numbers`
abbrev pub day_in : Json → Option DateParts
day_in j = option_and_then day_of_numbers (array_elements j)

-- two dates, if there are both
abbrev pub both_dates : Option DateParts → Option DateParts → Option (List DateParts)
both_dates start end = option_and_then (λ a. option_map (λ b. a ∷ b ∷ []) end) start

-- one date, or the two dates of a range, if the list contains one or two dates
abbrev pub dates_of : List Json → Option (List DateParts)
dates_of [] = None
dates_of (only ∷ []) = option_map (λ date. date ∷ []) (day_in only)
dates_of (start ∷ end ∷ []) = both_dates (day_in start) (day_in end)
dates_of (start ∷ end ∷ more ∷ rest) = None

-- the dates in the member `date-parts`
abbrev pub dates_under : Json → Option (List DateParts)
dates_under date = option_and_then (λ j. option_and_then dates_of (array_elements j)) (get (codes "date-parts") date)

-- the season with this number
abbrev pub season_of_number : List ℕ → Option Season
season_of_number number =
    if bytes_eq number (codes "1") then Some Spring
    else if bytes_eq number (codes "2") then Some Summer
    else if bytes_eq number (codes "3") then Some Autumn
    else if bytes_eq number (codes "4") then Some Winter
    else None

-- the season in the member `season`
abbrev pub season_under : Json → Option Season
season_under date = option_and_then season_of_number (text_under (codes "season") date)

-- the member `circa`, if it is true or false
abbrev pub circa_under : Json → Option Bool
circa_under date = option_and_then as_bool (get (codes "circa") date)

-- the text of a date: the member `literal`, or else the member `raw`
abbrev pub date_words : Json → Option (List ℕ)
date_words date = option_or (string_under (codes "literal") date) (string_under (codes "raw") date)

-- the date with these parts, and with the season, `circa` and the text of the object
unfoldable pub parted_date : List DateParts → Json → ItemDate
parted_date parts date = record {
  parts = parts;
  season = season_under date;
  circa = unwrap_or (circa_under date) false;
  literal = date_words date;
}

-- the date that a text is parsed as in a date field, or else a season or a date with this text; `None` if it is empty
abbrev pub said_date : List ℕ → Option ItemDate
said_date text = read_or_unread (date_read (alone (Normal text))) text

-- the date of parts, or else of a text
abbrev pub by_parts_or_text : Option (List DateParts) → Json → Option ItemDate
by_parts_or_text (Some parts) date = Some (parted_date parts date)
by_parts_or_text None date = option_and_then said_date (date_words date)

-- the date of an object
unfoldable pub date_given : Json → Option ItemDate
date_given date = by_parts_or_text (dates_under date) date

-- the number of members of an object that its date is made of
unfoldable pub said_by_parts : Json → ℕ
said_by_parts date =
    if is_some (dates_under date)
    then 1 + one_if (is_some (season_under date)) + one_if (is_some (circa_under date)) + one_if (is_some (date_words date))
    else one_if (is_some (date_words date))

-- whether an object has no members except those that its date is made of
abbrev pub is_whole_date : Json → Bool
is_whole_date date = object_size date == said_by_parts date
