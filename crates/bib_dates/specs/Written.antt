-- Meaning: words of public contracts.
-- How dates are written, as the Rust crate `biblatex` writes them, except for a month or a day of 255, which overflows there.
use Rattle.std.specs.Prelude.{ℕ, ◌+◌, ◌-◌, Bool, true, false, if◌then◌else◌, ℤ, unsigned_abs, replicate, List, [], ◌∷◌, ◌++◌, length, codes, Option, Some, None}
use Rattle.std.specs.Option.{option_map}
use Rattle.std.specs.Fmt.{decimal}
use Rattle.std.specs.Int.{is_negative}
use Rattle.bib_dates.specs.declared.date.Date.{Date}
use Rattle.bib_dates.specs.declared.date.DateValue.{DateValue}
use Rattle.bib_dates.specs.declared.date.DateValue.TheVariants.{At, After, Before, Between}
use Rattle.bib_dates.specs.declared.date.Datetime.{Datetime}
use Rattle.bib_text.specs.Characters as char

-- the zeros before a number that has fewer than `width` digits, so that it has `width` with them
abbrev pub zeros : ℕ → ℕ → List ℕ
zeros width n = replicate (width - length (decimal n)) char.zero

-- a number in at least so many digits
abbrev pub with_zeros : ℕ → ℕ → List ℕ
with_zeros width n = zeros width n ++ decimal n

-- a year in at least four digits, with a sign if it is negative
abbrev pub year_text : ℤ → List ℕ
year_text y = if is_negative y then char.hyphen ∷ with_zeros 4 (unsigned_abs y) else with_zeros 4 (unsigned_abs y)

-- a month or a day, which counts from 0, as its number from 1 in at least two digits
abbrev pub count_text : ℕ → List ℕ
count_text n = with_zeros 2 (n + 1)

-- a month and a day, each after a hyphen; a day without a month isn't written
abbrev pub month_day_text : Option ℕ → Option ℕ → List ℕ
month_day_text None day = []
month_day_text (Some m) None = char.hyphen ∷ count_text m
month_day_text (Some m) (Some d) = (char.hyphen ∷ count_text m) ++ (char.hyphen ∷ count_text d)

-- a date without its time
abbrev pub datetime_text : Datetime → List ℕ
datetime_text d = year_text d.year ++ month_day_text d.month d.day

-- the mark of a date; the flags say whether it is uncertain and whether it is approximate
abbrev pub mark_text : Bool → Bool → List ℕ
mark_text true true = codes "%"
mark_text true false = codes "?"
mark_text false true = codes "~"
mark_text false false = []

-- a date or a range, and the mark after it
abbrev pub value_text : DateValue → List ℕ → List ℕ
value_text (At d) mark = datetime_text d ++ mark
value_text (After d) mark = datetime_text d ++ (codes "/.." ++ mark)
value_text (Before d) mark = codes "../" ++ (datetime_text d ++ mark)
value_text (Between a b) mark = datetime_text a ++ (codes "/" ++ (datetime_text b ++ mark))

-- a date or a range, and its mark
abbrev pub date_text : Date → List ℕ
date_text d = value_text d.value (mark_text d.uncertain d.approximate)

-- ---- for separate fields, as BibTeX has them

-- the side whose parts are the fields `year`, `month` and `day`: the first one if there are two
abbrev pub first_side : DateValue → Datetime
first_side (At d) = d
first_side (After d) = d
first_side (Before d) = d
first_side (Between a b) = a

-- the side whose parts are the fields `endyear`, `endmonth` and `endday`: the second one, if there are two
abbrev pub second_side : DateValue → Option Datetime
second_side (At d) = None
second_side (After d) = None
second_side (Before d) = None
second_side (Between a b) = Some b

-- the text of a month, if there is one
abbrev pub month_text : Datetime → Option (List ℕ)
month_text d = option_map count_text d.month

-- a day, if there is one and a month too
abbrev pub day_of_month : Option ℕ → Option ℕ → Option ℕ
day_of_month None day = None
day_of_month (Some m) day = day

-- the text of a day, if there is one and a month too
abbrev pub day_text : Datetime → Option (List ℕ)
day_text d = option_map count_text (day_of_month d.month d.day)
