-- Meaning: words of public contracts.
-- The time after a day, as in level 0 of the Extended Date/Time Format, and as the Rust crate `biblatex` parses it, except that only
-- ASCII digits are digits.
use Rattle.std.specs.Prelude.{ℕ, Bool, true, false, ◌==◌, if◌then◌else◌, List, [], length, drop, Option, Some, None}
use Rattle.std.specs.Str.{trim_start}
use Rattle.bib_tables.specs.declared.type_error.TypeErrorKind.TheVariants.{InvalidNumber}
use Rattle.bib_dates.specs.declared.date.Time.{Time}
use Rattle.bib_dates.specs.declared.date.TimeOffset.{TimeOffset}
use Rattle.bib_dates.specs.declared.date.TimeOffset.TheVariants.{Utc, Offset}
use Rattle.bib_dates.specs.Readings.{Reading, ◌>>=◌}
use Rattle.bib_dates.specs.Readings.Reading.{says, unread}
use Rattle.bib_dates.specs.Parts.{small_number, begins_with, after_byte, after_colon}
use Rattle.bib_text.specs.Characters as char

-- the minutes of an offset, from the text after its hours: 0 if that is empty. Text after the minutes is ignored.
unfoldable pub offset_minute : List ℕ → Reading ℕ
offset_minute [] = says 0
offset_minute text = do
  rest ← after_colon text
  minute ← small_number 0 59 InvalidNumber rest
  says minute.0

-- an offset after its sign: hours, and optional minutes
unfoldable pub signed_offset : Bool → List ℕ → Reading (Option TimeOffset)
signed_offset positive text = do
  hours ← small_number 0 23 InvalidNumber text
  minutes ← offset_minute (trim_start hours.1)
  says (Some (Offset positive hours.0 minutes))

-- an optional offset: nothing, `Z` and any text after it, or a sign, hours and optional minutes
unfoldable pub offset : List ℕ → Reading (Option TimeOffset)
offset text =
    if length text == 0 then says None
    else if begins_with char.upper_z text then says (Some Utc)
    else if begins_with char.plus text then signed_offset true (drop 1 text)
    else if begins_with char.hyphen text then signed_offset false (drop 1 text)
    else unread

-- the time of these parts
abbrev pub time : ℕ → ℕ → ℕ → Option TimeOffset → Option Time
time hour minute second offset = Some (record { hour = hour; minute = minute; second = second; offset = offset })

-- the time of an hour and a minute, and of the text after them: nothing, or a second and an optional offset
unfoldable pub after_minute : ℕ → ℕ → List ℕ → Reading (Option Time)
after_minute hour minute [] = says (time hour minute 0 None)
after_minute hour minute text = do
  rest ← after_colon text
  second ← small_number 0 59 InvalidNumber rest
  zone ← offset (trim_start second.1)
  says (time hour minute second.0 zone)

-- the time of an hour, and of the text after it: nothing, or a minute and an optional second and offset
unfoldable pub after_hour : ℕ → List ℕ → Reading (Option Time)
after_hour hour [] = says (time hour 0 0 None)
after_hour hour text = do
  rest ← after_colon text
  minute ← small_number 0 59 InvalidNumber rest
  after_minute hour minute.0 (trim_start minute.1)

-- the time in the text after a day: nothing, or `T` and a time
unfoldable pub after_day : List ℕ → Reading (Option Time)
after_day [] = says None
after_day text = do
  rest ← after_byte char.upper_t text
  hour ← small_number 0 23 InvalidNumber rest
  after_hour hour.0 (trim_start hour.1)
