-- Meaning: words of public contracts.
-- The dates of an item.
use Rattle.std.specs.Prelude.{ℕ, ◌+◌, ◌-◌, ◌*◌, Bool, false, ◌&&◌, ◌||◌, ◌==◌, if◌then◌else◌, ℤ, pos, ◌-ℤ◌, List, [], ◌∷◌, ◌++◌, length, drop, take, slice_index, bytes_eq, codes, Option, Some, None}
use Rattle.std.specs.Char.{is_ascii_digit}
use Rattle.std.specs.List.{list_all, list_any, prefix_len}
use Rattle.std.specs.Option.{option_map, unwrap_or}
use Rattle.std.specs.Ordering.{int_cmp, is_lt}
use Rattle.std.specs.Str.{trim, trim_start}
use Rattle.bib_text.specs.Characters as char
use Rattle.bib_chunks.specs.Values.{Value, text}
use Rattle.bib_dates.specs.Chunks.{date_read, three_fields_reading}
use Rattle.bib_dates.specs.Readings.{readable_value}
use Rattle.bib_dates.specs.declared.date.Date.{Date}
use Rattle.bib_dates.specs.declared.date.DateValue.{DateValue}
use Rattle.bib_dates.specs.declared.date.DateValue.TheVariants.{At, After, Before, Between}
use Rattle.bib_dates.specs.declared.date.Datetime.{Datetime}
use Rattle.bib_entry.specs.declared.entry.Entry.{Entry}
use Rattle.bib_csl.specs.declared.item.DateParts.{DateParts}
use Rattle.bib_csl.specs.declared.item.Field.{Field}
use Rattle.bib_csl.specs.declared.item.ItemDate.{ItemDate}
use Rattle.bib_csl.specs.declared.item.Season.{Season}
use Rattle.bib_csl.specs.declared.item.Season.TheVariants.{Spring, Summer, Autumn, Winter}
use Rattle.bib_csl.specs.declared.variables.Variable.TheVariants.{Issued, Accessed, EventDate, OriginalDate}
use Rattle.bib_csl.specs.Fields.{given_date}
use Rattle.bib_csl.specs.Texts.{field, shown_field, joined}

-- a year as CSL counts it: the year before 1 is -1
unfoldable pub csl_year : ℤ → ℤ
csl_year year = if is_lt (int_cmp year (pos 1)) then year -ℤ pos 1 else year

-- a number that counts from 0, as a number that counts from 1
abbrev pub from_one : ℕ → ℕ
from_one n = n + 1

-- year, month and day of a date; its time is dropped
unfoldable pub parts_of_date : Datetime → DateParts
parts_of_date d = record { year = csl_year d.year; month = option_map from_one d.month; day = option_map from_one d.day }

-- the date in place of the open side of a range: citation processors print nothing for it. CSL counts no year as 0.
abbrev pub open_side : DateParts
open_side = record { year = pos 0; month = None; day = None }

-- the dates of a date or a range: one, or two for a range
unfoldable pub parts_of_value : DateValue → List DateParts
parts_of_value (At d) = parts_of_date d ∷ []
parts_of_value (After d) = parts_of_date d ∷ open_side ∷ []
parts_of_value (Before d) = open_side ∷ parts_of_date d ∷ []
parts_of_value (Between a b) = parts_of_date a ∷ parts_of_date b ∷ []

-- the date of an item for a parsed date
unfoldable pub date_item : Date → ItemDate
date_item d = record { parts = parts_of_value d.value; season = None; circa = d.uncertain || d.approximate; literal = None }

-- the date of an item for a text that can't be parsed as a date
unfoldable pub literal_item : List ℕ → ItemDate
literal_item text = record { parts = []; season = None; circa = false; literal = Some text }

-- the value of a digit at an index of a text: 0 for a byte below `0`, and above 9 for a byte above `9`
unfoldable pub digit : List ℕ → ℕ → ℕ
digit text i = slice_index text i - char.zero

-- the year that the first four bytes of a text form as digits
unfoldable pub first_year : List ℕ → ℕ
first_year text = 1000 * digit text 0 + 100 * digit text 1 + 10 * digit text 2 + digit text 3

-- whether a text is four ASCII digits, `-2` and one more byte: ISO 8601-2 has the seasons 21 to 24 there
unfoldable pub is_season_text : List ℕ → Bool
is_season_text text =
    (length text == 7) && (list_all is_ascii_digit (take 4 text) && ((slice_index text 4 == char.hyphen) && (digit text 5 == 2)))

-- the season with the number 20 + n in ISO 8601-2, from 21 to 24; `None` for another number
abbrev pub season_numbered : ℕ → Option Season
season_numbered n =
    if n == 1 then Some Spring else if n == 2 then Some Summer else if n == 3 then Some Autumn else if n == 4 then Some Winter else None

-- the date of an item for a season of a year
unfoldable pub season_item : ℕ → Season → ItemDate
season_item year season =
    record {
      parts = record { year = csl_year (pos year); month = None; day = None } ∷ [];
      season = Some season;
      circa = false;
      literal = None;
    }

-- the date of an item for a text such as `2020-21`, which is a season of a year
unfoldable pub season_of : List ℕ → Option ItemDate
season_of text = if is_season_text text then option_map (season_item (first_year text)) (season_numbered (digit text 6)) else None

-- the date of an item for a text that isn't parsed: a season, or else the text itself, unless it is empty
unfoldable pub unread : List ℕ → Option ItemDate
unread text = if length text == 0 then None else Some (unwrap_or (season_of text) (literal_item text))

-- the date of an item: the parsed date, or else that of `unread`
unfoldable pub read_or_unread : Option Date → List ℕ → Option ItemDate
read_or_unread (Some date) text = Some (date_item date)
read_or_unread None text = unread text

-- the text of a month and a year that can't be parsed
abbrev pub month_and_year : Option Value → Value → List ℕ
month_and_year month year = joined (codes " ") (shown_field month) (text year)

-- a text without the hyphen at its start, if it has one
abbrev pub without_hyphen : List ℕ → List ℕ
without_hyphen [] = []
without_hyphen (b ∷ rest) = if b == char.hyphen then rest else b ∷ rest

-- a text without the ASCII digits at its start
abbrev pub after_digits : List ℕ → List ℕ
after_digits text = drop (prefix_len is_ascii_digit text) text

-- the texts that may follow the digits of a year: the empty text, or an era
abbrev pub eras : List (List ℕ)
eras = [] ∷ codes "AD" ∷ codes "CE" ∷ codes "BCE" ∷ codes "BC" ∷ []

-- whether a text has nothing but the digits of a year, maybe with a hyphen before them and an era after them. `1943-1978` and `7 May 2021`
-- have more. There may be white space at its ends and before the era, and the digits may be missing.
unfoldable pub is_year : List ℕ → Bool
is_year text = list_any (bytes_eq (trim_start (after_digits (without_hyphen (trim text))))) eras

-- the date that a year, a month and a day are parsed as, if there is no other text around the year
unfoldable pub three_fields_read : Value → Option Value → Option Value → Option Date
three_fields_read year month day = if is_year (text year) then readable_value (three_fields_reading year month day) else None

-- the date of an item for a year, and the month and the day if the entry has them; none without a year
unfoldable pub three_fields_item : Option Value → Option Value → Option Value → Option ItemDate
three_fields_item None month day = None
three_fields_item (Some year) month day = read_or_unread (three_fields_read year month day) (month_and_year month year)

-- the date of an item for the date field, or else for the three fields
abbrev pub date_or_fields : Option Value → Option Value → Option Value → Option Value → Option ItemDate
date_or_fields (Some date) year month day = read_or_unread (date_read date) (text date)
date_or_fields None year month day = three_fields_item year month day

-- the date of an item for the field named `date`, or else for the fields named `year`, `month` and `day`
unfoldable pub date_in : Entry → List ℕ → List ℕ → List ℕ → List ℕ → Option ItemDate
date_in entry date year month day = date_or_fields (field entry date) (field entry year) (field entry month) (field entry day)

-- the dates of an item
unfoldable pub date_fields : Entry → List Field
date_fields entry =
    given_date Issued (date_in entry (codes "date") (codes "year") (codes "month") (codes "day")) ++
    (given_date Accessed (date_in entry (codes "urldate") (codes "urlyear") (codes "urlmonth") (codes "urlday")) ++
    (given_date EventDate (date_in entry (codes "eventdate") (codes "eventyear") (codes "eventmonth") (codes "eventday")) ++
    given_date OriginalDate (date_in entry (codes "origdate") (codes "origyear") (codes "origmonth") (codes "origday"))))
