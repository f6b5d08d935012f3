-- Meaning: words of public contracts.
-- Lines of dates. A date is that of an item of CSL-JSON.
use Rattle.std.specs.Prelude.{ℕ, nat_lt, if◌then◌else◌, pos, List, [], ◌∷◌, ◌++◌, codes, Option, Some, None}
use Rattle.std.specs.Fmt.{decimal, signed_decimal}
use Rattle.std.specs.Option.{unwrap_or}
use Rattle.std.specs.Ordering.{int_eq}
use Rattle.bib_csl.specs.Dates.{date_in}
use Rattle.bib_csl.specs.declared.item.DateParts.{DateParts}
use Rattle.bib_csl.specs.declared.item.ItemDate.{ItemDate}
use Rattle.bib_entry.specs.declared.entry.Entry.{Entry}
use Rattle.bib_ris.specs.Lines.{given_line}

-- the only date, or the start of a range, or its end if its start is open; the year 0 means an open side
abbrev pub first_date : List DateParts → Option DateParts
first_date [] = None
first_date (only ∷ []) = Some only
first_date (start ∷ end ∷ rest) = if int_eq start.year (pos 0) then Some end else Some start

-- a month or a day in at least two digits, or nothing if it is unknown
abbrev pub two_digits : Option ℕ → List ℕ
two_digits None = []
two_digits (Some number) = if nat_lt number 10 then codes "0" ++ decimal number else decimal number

-- a year, a month and a day with a slash after each
abbrev pub slashed_day : DateParts → List ℕ
slashed_day d = signed_decimal d.year ++ (codes "/" ++ (two_digits d.month ++ (codes "/" ++ (two_digits d.day ++ codes "/"))))

-- the text of a date that isn't parsed, or nothing
abbrev pub unparsed : ItemDate → List ℕ
unparsed date = unwrap_or date.literal []

-- the line with the year, the month and the day of a date, if its month is known
abbrev pub day_line : Option ℕ → DateParts → List ℕ
day_line None first = []
day_line (Some month) first = given_line (codes "DA") (slashed_day first)

-- the lines of a date of publication: the year of `first`, and the whole date if its month is known. A date that isn't parsed has one line,
-- with its text.
abbrev pub issued_from : Option DateParts → ItemDate → List ℕ
issued_from None date = given_line (codes "PY") (unparsed date)
issued_from (Some first) date = given_line (codes "PY") (signed_decimal first.year) ++ day_line first.month first

-- the lines of a date of publication
abbrev pub issued_date : ItemDate → List ℕ
issued_date date = issued_from (first_date date.parts) date

-- the text of a date of access: that of `first`, or the text of a date that isn't parsed
abbrev pub access_text : Option DateParts → ItemDate → List ℕ
access_text None date = unparsed date
access_text (Some first) date = slashed_day first

-- the line of a date of access
abbrev pub access_date : ItemDate → List ℕ
access_date date = given_line (codes "Y2") (access_text (first_date date.parts) date)

-- the lines of a date, if there is one
abbrev pub if_dated : (ItemDate → List ℕ) → Option ItemDate → List ℕ
if_dated lines None = []
if_dated lines (Some date) = lines date

-- the lines of the dates of publication and of access
abbrev pub lines_of_dates : Entry → List ℕ
lines_of_dates entry =
    if_dated issued_date (date_in entry (codes "date") (codes "year") (codes "month") (codes "day"))
    ++ if_dated access_date (date_in entry (codes "urldate") (codes "urlyear") (codes "urlmonth") (codes "urlday"))
