-- Meaning: words of public contracts.
-- The dates that parse from their text.
use Rattle.std.specs.Prelude.{◌≡◌, ℕ, ◌+◌, ◌<◌, ℤ, Option, Some, None}
use Rattle.jiff_core.specs.Calendar.{days_in_month, IsYear}
use Rattle.bib_dates.specs.declared.date.Date.{Date}
use Rattle.bib_dates.specs.declared.date.DateValue.{DateValue}
use Rattle.bib_dates.specs.declared.date.DateValue.TheVariants.{At, After, Before, Between}
use Rattle.bib_dates.specs.declared.date.Datetime.{Datetime}

-- a given month is one of a year, and a given day is one of that month; there is no day without a month. Both count from 0.
abbrev pub IsKeptDay : ℤ → Option ℕ → Option ℕ → Type 0
IsKeptDay y None None = Unit {0}
IsKeptDay y None (Some d) = ⊥
IsKeptDay y (Some m) None = m < 12
IsKeptDay y (Some m) (Some d) = (m < 12) × (d < days_in_month y (m + 1))

-- the year is from -9999 to 9999, the month and the day meet `IsKeptDay`, and there is no time
pub record IsKeptDatetime (d : Datetime) : Type 0 where
  pub year : IsYear d.year
  pub day : IsKeptDay d.year d.month d.day
  pub time : d.time ≡ None

-- the date, or each side of a range, is kept
abbrev pub IsKeptValue : DateValue → Type 0
IsKeptValue (At d) = IsKeptDatetime d
IsKeptValue (After d) = IsKeptDatetime d
IsKeptValue (Before d) = IsKeptDatetime d
IsKeptValue (Between a b) = IsKeptDatetime a × IsKeptDatetime b

-- a kept date, which parses from its text: the date or each side of the range is kept
abbrev pub IsKeptDate : Date → Type 0
IsKeptDate d = IsKeptValue d.value
