-- Meaning: words of public contracts.
-- Dates as texts, after levels 0 and 1 of the Extended Date/Time Format as in the BibLaTeX manual, and as the Rust crate
-- `biblatex` parses them, with the exceptions that docs/DIFFERENCES.md lists. White space may come before and after hyphens.
use Rattle.std.specs.Prelude.{ℕ, ◌+◌, ◌-◌, ◌*◌, Bool, ◌&&◌, ◌||◌, ◌==◌, nat_lt, not, if◌then◌else◌, ℤ, pos, List, [], length, take, slice_index, codes, Option, Some, None, bytes_eq}
use Rattle.std.specs.List.{prefix_len, before_first, after_first, list_any}
use Rattle.std.specs.Char.{is_ascii_digit}
use Rattle.std.specs.Str.{trim, trim_start, trim_end, str_to_ascii_uppercase}
use Rattle.std.specs.Str.Parse.{digits_value}
use Rattle.jiff_core.specs.Calendar.{days_in_month}
use Rattle.bib_tables.specs.declared.type_error.TypeErrorKind.TheVariants.{UndefinedRange, DayOutOfRange, MonthOutOfRange, WrongNumberOfDigits}
use Rattle.bib_dates.specs.declared.date.Date.{Date}
use Rattle.bib_dates.specs.declared.date.DateValue.{DateValue}
use Rattle.bib_dates.specs.declared.date.DateValue.TheVariants.{At, After, Before, Between}
use Rattle.bib_dates.specs.declared.date.Datetime.{Datetime}
use Rattle.bib_dates.specs.declared.date.Time.{Time}
use Rattle.bib_dates.specs.Readings.{Reading, ◌>>=◌}
use Rattle.bib_dates.specs.Readings.Reading.{says, error, unread}
use Rattle.bib_dates.specs.Parts.{run, after_run, lies, begins_with, number, small_number, after_hyphens, year}
use Rattle.bib_dates.specs.Times.{after_day}
use Rattle.bib_text.specs.Characters as char

-- a date of these parts
abbrev pub datetime : ℤ → Option ℕ → Option ℕ → Option Time → Datetime
datetime y m d t = record { year = y; month = m; day = d; time = t }

-- the date of a year and a month, which counts from 1, and of the text after them. That is empty, or hyphens, a day of that
-- month and an optional time.
unfoldable pub after_month : ℤ → ℕ → List ℕ → Reading Datetime
after_month y m [] = says (datetime y (Some (m - 1)) None None)
after_month y m text = do
  rest ← after_hyphens text
  day ← small_number 1 (days_in_month y m) DayOutOfRange rest
  clock ← after_day (trim_start day.1)
  says (datetime y (Some (m - 1)) (Some (day.0 - 1)) clock)

-- the date of a year and of the text after it. That is empty, or hyphens, a month, and an optional day and time.
unfoldable pub after_year : ℤ → List ℕ → Reading Datetime
after_year y [] = says (datetime y None None None)
after_year y text = do
  rest ← after_hyphens text
  month ← small_number 1 12 MonthOutOfRange rest
  after_month y month.0 (trim_start month.1)

-- one side of a range, or a single date
unfoldable pub side : List ℕ → Reading Datetime
side text = do
  y ← year text
  after_year y.0 (trim_start y.1)

-- the range from a year to the one `more` years later
abbrev pub years : ℕ → ℕ → DateValue
years y more = Between (datetime (pos y) None None None) (datetime (pos (y + more)) None None None)

-- the range from the first month of a year to the last one
abbrev pub months : ℕ → DateValue
months y = Between (datetime (pos y) (Some 0) None None) (datetime (pos y) (Some 11) None None)

-- the range from the first day of a month to the 31st, even if there is none
abbrev pub days : ℕ → ℕ → DateValue
days y m = Between (datetime (pos y) (Some m) (Some 0) None) (datetime (pos y) (Some m) (Some 30) None)

-- the number of `X` at the start
abbrev pub unknowns : List ℕ → ℕ
unknowns text = prefix_len (λ b. b == char.upper_x) text

-- the text after the `X` at the start
abbrev pub after_unknowns : List ℕ → List ℕ
after_unknowns text = after_run (λ b. b == char.upper_x) text

-- all months of a year; `text` is the text after `XX` for the month. It is empty or only white space, or it is hyphens, `XX`
-- and a text that doesn't begin with `X`.
unfoldable pub all_months : ℕ → List ℕ → Reading DateValue
all_months y text =
    if length (trim_start text) == 0 then says (months y)
    else after_hyphens text >>= (λ rest. if unknowns (trim_start rest) == 2 then says (months y) else unread)

-- all days of a month: a month of two digits, hyphens, `XX` and only white space
unfoldable pub all_days : ℕ → List ℕ → Reading DateValue
all_days y text =
    number 2 2 text >>= (λ month.
    if not (lies 1 12 month.0) then error MonthOutOfRange
    else after_hyphens month.1 >>= (λ rest.
    if unknowns (trim_start rest) == 2 && length (trim_start (after_unknowns (trim_start rest))) == 0
    then says (days y (month.0 - 1)) else unread))

-- the range after four digits and hyphens: `XX`, with or without days, or a month and `XX`
unfoldable pub unknown_month : ℕ → List ℕ → Reading DateValue
unknown_month y text =
    if unknowns text == 2 then all_months y (after_unknowns text)
    else if unknowns text == 0 then all_days y text else unread

-- the years of a century; `n` is the number of its two digits, and `text` is the text after them
unfoldable pub century : ℕ → List ℕ → Reading DateValue
century n text = if unknowns text == 2 then says (years (100 * n) 99) else unread

-- the years of a decade; `n` is the number of its three digits, and `text` is the text after them
unfoldable pub decade : ℕ → List ℕ → Reading DateValue
decade n text = if unknowns text == 1 then says (years (10 * n) 9) else unread

-- the range after the four digits of a year: hyphens, and a month or `XX`. An `X` right after the digits would be a
-- fifth one.
unfoldable pub after_four_digits : ℕ → List ℕ → Reading DateValue
after_four_digits y text =
    if begins_with char.upper_x text then error WrongNumberOfDigits
    else after_hyphens text >>= (λ rest. unknown_month y (trim_start rest))

-- a date with unknown digits, which are written `X`. It is the years of a century or a decade, the months of a year or the
-- days of a month
unfoldable pub unknown : List ℕ → Reading DateValue
unknown text =
    let here = trim_start text in
    let digits = prefix_len is_ascii_digit here in
    let n = digits_value 10 (run is_ascii_digit here) in
    let rest = after_run is_ascii_digit here in
    if nat_lt 4 digits then error WrongNumberOfDigits
    else if digits == 2 then century n rest
    else if digits == 3 then decade n rest
    else if digits == 4 then after_four_digits n rest
    else unread

-- whether a side of a range is open: it is blank or two dots
abbrev pub is_open : List ℕ → Bool
is_open text = (length (trim text) == 0) || bytes_eq text (codes "..")

-- a range, from the texts of its sides
unfoldable pub range : List ℕ → List ℕ → Reading DateValue
range from to =
    if is_open from then
    (if is_open to then error UndefinedRange else (do
      end ← side to
      says (Before end)))
    else (do
      start ← side from
      if is_open to then says (After start) else (do
        end ← side to
        says (Between start end)))

-- whether the text contains this byte
abbrev pub holds : ℕ → List ℕ → Bool
holds byte text = list_any (λ b. b == byte) text

-- a date without the mark at its end
unfoldable pub date_value : List ℕ → Reading DateValue
date_value text =
    if holds char.upper_x text then unknown text
    else if holds char.slash text then range (before_first (λ b. b == char.slash) text) (after_first (λ b. b == char.slash) text)
    else (do
      at ← side text
      says (At at))

-- the last byte of a text, or 0
abbrev pub last : List ℕ → ℕ
last text = slice_index text (length text - 1)

-- whether a mark at the end says that a date is uncertain: `?`, or `%`, which says both
abbrev pub is_uncertain : ℕ → Bool
is_uncertain mark = mark == char.percent || mark == char.question

-- whether a mark at the end says that a date is approximate: `~`, or `%`, which says both
abbrev pub is_approximate : ℕ → Bool
is_approximate mark = mark == char.percent || mark == char.tilde

-- a text without the mark at its end
abbrev pub without_mark : List ℕ → List ℕ
without_mark text = if is_uncertain (last text) || is_approximate (last text) then take (length text - 1) text else text

-- a date with the mark at its end
unfoldable pub marked_date : List ℕ → Reading Date
marked_date text = do
  value ← date_value (without_mark text)
  says (record { value = value; uncertain = is_uncertain (last text); approximate = is_approximate (last text) })

-- the result of parsing a text: its ASCII letters are put into upper case first, and the white space at its end is
-- removed
abbrev pub date_of : List ℕ → Reading Date
date_of text = marked_date (trim_end (str_to_ascii_uppercase text))
