-- Meaning: words of public contracts.
-- Dates in JSON, with months and days counted from 1.
use Rattle.std.specs.Prelude.{ℕ, ◌+◌, ◌*◌, true, false, ℤ, pos, neg_ℤ, List, [], ◌∷◌, codes, Option, Some, None, option_map}
use Rattle.bib_dates.specs.declared.date.Date.{Date}
use Rattle.bib_dates.specs.declared.date.DateValue.{DateValue}
use Rattle.bib_dates.specs.declared.date.DateValue.TheVariants.{At, After, Before, Between}
use Rattle.bib_dates.specs.declared.date.Datetime.{Datetime}
use Rattle.bib_dates.specs.declared.date.Time.{Time}
use Rattle.bib_dates.specs.declared.date.TimeOffset.{TimeOffset}
use Rattle.bib_dates.specs.declared.date.TimeOffset.TheVariants.{Utc, Offset}
use Rattle.serde_json.specs.Data.{Data, number, unsigned, string, boolean}
use Rattle.serde_json.specs.Find.{of_integer}
use Rattle.bib_json.specs.Objects.{Member, object_of}

-- the offset from UTC in minutes, positive for a time ahead of UTC
abbrev pub offset_minutes : TimeOffset → ℤ
offset_minutes Utc = pos 0
offset_minutes (Offset true hours minutes) = pos (hours * 60 + minutes)
offset_minutes (Offset false hours minutes) = neg_ℤ (pos (hours * 60 + minutes))

-- an offset from UTC, in minutes
abbrev pub offset_json : TimeOffset → Data
offset_json offset = number (of_integer (offset_minutes offset))

-- a time of day
abbrev pub time_members : Time → List Member
time_members t =
    (codes "hour", Some (number (unsigned t.hour)))
    ∷ (codes "minute", Some (number (unsigned t.minute)))
    ∷ (codes "second", Some (number (unsigned t.second)))
    ∷ (codes "offset", option_map offset_json t.offset)
    ∷ []

-- the object of a time
abbrev pub time_json : Time → Data
time_json t = object_of (time_members t)

-- a month or a day, counted from 1
abbrev pub counted_json : ℕ → Data
counted_json index = number (unsigned (index + 1))

-- a year, with its month, its day and its time if the date has them
abbrev pub datetime_members : Datetime → List Member
datetime_members d =
    (codes "year", Some (number (of_integer d.year)))
    ∷ (codes "month", option_map counted_json d.month)
    ∷ (codes "day", option_map counted_json d.day)
    ∷ (codes "time", option_map time_json d.time)
    ∷ []

-- the object of a date
abbrev pub datetime_json : Datetime → Data
datetime_json d = object_of (datetime_members d)

-- the kind of a date: one date, or a range with a start, with an end, or with both
abbrev pub date_kind : DateValue → List ℕ
date_kind (At d) = codes "at"
date_kind (After d) = codes "after"
date_kind (Before d) = codes "before"
date_kind (Between d e) = codes "between"

-- the only date, or the start of a range, if it has one
abbrev pub date_start : DateValue → Option Datetime
date_start (At d) = Some d
date_start (After d) = Some d
date_start (Before d) = None
date_start (Between d e) = Some d

-- the end of a range, if it has one
abbrev pub date_end : DateValue → Option Datetime
date_end (At d) = None
date_end (After d) = None
date_end (Before d) = Some d
date_end (Between d e) = Some e

-- a date or a range of dates
abbrev pub members_of_date : Date → List Member
members_of_date d =
    (codes "kind", Some (string (date_kind d.value)))
    ∷ (codes "start", option_map datetime_json (date_start d.value))
    ∷ (codes "end", option_map datetime_json (date_end d.value))
    ∷ (codes "uncertain", Some (boolean d.uncertain))
    ∷ (codes "approximate", Some (boolean d.approximate))
    ∷ []

-- the object of a date or a range of dates
abbrev pub date_json : Date → Data
date_json d = object_of (members_of_date d)
