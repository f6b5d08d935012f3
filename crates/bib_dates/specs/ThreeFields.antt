-- Meaning: words of public contracts.
-- Dates in three fields: a year with an era, a month by number or name, and a day in a field of its own or after the
-- month. The rules are those of the BibLaTeX manual and of BibTeX's fields `year`, `month` and `day`, as the Rust crate
-- `biblatex` parses them, with the exceptions that docs/DIFFERENCES.md lists. The eras and the names of months are ASCII; the texts
-- are not put into upper case.
use Rattle.std.specs.Prelude.{ℕ, ◌-◌, Bool, true, false, ◌&&◌, ◌||◌, ◌==◌, nat_lt, not, if◌then◌else◌, ℤ, pos, ◌-ℤ◌, List, [], ◌∷◌, length, drop, codes, encode_utf8_all, Option, Some, None}
use Rattle.std.specs.List.{prefix_len}
use Rattle.std.specs.declared.ops.Range.{Range}
use Rattle.std.specs.Char.{is_ascii_digit, is_ascii_alphabetic, is_whitespace}
use Rattle.std.specs.Char.Unicode.Alphabetic.{is_alphabetic}
use Rattle.std.specs.Char.Unicode.Numeric.{is_numeric}
use Rattle.std.specs.Option.{option_map}
use Rattle.std.specs.Str.{chars, trim, trim_start}
use Rattle.std.specs.Str.Parse.{digits_value}
use Rattle.bib_dates.specs.declared.date.Date.{Date}
use Rattle.bib_dates.specs.declared.date.DateValue.TheVariants.{At}
use Rattle.bib_text.specs.Runs.{rest_after}
use Rattle.bib_tables.specs.declared.type_error.TypeErrorKind.TheVariants.{DayOutOfRange, MonthOutOfRange, InvalidFormat, YearZeroCE}
use Rattle.bib_dates.specs.Readings.{Reading, ◌>>=◌, Parsed}
use Rattle.bib_dates.specs.Readings.Reading.{says, error, unread}
use Rattle.bib_dates.specs.Parts.{run, after_run, lies, begins_with, sign, with_sign}
use Rattle.bib_dates.specs.Dates.{datetime}
use Rattle.bib_text.specs.Characters as char
use Rattle.bib_tables.specs.Months.{month_index, month_of_word}

-- whether a text begins with white space
abbrev pub starts_blank : List ℕ → Bool
starts_blank text = not (length (trim_start text) == length text)

-- whether the first character is a letter or a number
abbrev pub is_word_first : List ℕ → Bool
is_word_first [] = false
is_word_first (c ∷ cs) = is_alphabetic c || is_numeric c

-- whether a text begins with a letter or a number
abbrev pub starts_word : List ℕ → Bool
starts_word text = is_word_first (chars text)

-- whether the text begins with this word
abbrev pub stands : List ℕ → List ℕ → Bool
stands [] text = true
stands (b ∷ []) text = begins_with b text
stands (b ∷ c ∷ word) text = begins_with b text && stands (c ∷ word) (drop 1 text)

-- a text without as many bytes at its start as the word has
abbrev pub after_word : List ℕ → List ℕ → List ℕ
after_word [] text = text
after_word (b ∷ word) text = after_word word (drop 1 text)

-- the year of an era. `rest_after` is the text after the era, which must not begin with a letter or a number. The year has
-- no sign and isn't 0.
unfoldable pub of_era : Bool → ℕ → ℤ → List ℕ → Reading ℤ
of_era has_sign n year rest_after =
    if starts_word rest_after then unread
    else if has_sign then error InvalidFormat
    else if n == 0 then error YearZeroCE
    else says year

-- the year of a number, with an era after it or with its sign. Any other text may come after it, except a letter or a number
-- directly after an era
unfoldable pub with_era : Bool → Bool → ℕ → List ℕ → Reading ℤ
with_era has_sign is_minus n text =
    if stands (codes "AD") text then of_era has_sign n (pos n) (after_word (codes "AD") text)
    else if stands (codes "CE") text then of_era has_sign n (pos n) (after_word (codes "CE") text)
    else if stands (codes "BCE") text then of_era has_sign n (pos 1 -ℤ pos n) (after_word (codes "BCE") text)
    else if stands (codes "BC") text then of_era has_sign n (pos 1 -ℤ pos n) (after_word (codes "BC") text)
    else says (with_sign is_minus n)

-- the year field: an optional sign, one to four ASCII digits, and an optional era. Other text may come after them, as in
-- `with_era`
unfoldable pub year_field : List ℕ → Reading ℤ
year_field text =
    let here = trim_start text in
    let digits = (sign here).1 in
    let has_sign = not (length digits == length here) in
    if has_sign && starts_blank digits then error InvalidFormat
    else if lies 1 4 (prefix_len is_ascii_digit digits)
    then with_era has_sign (sign here).0 (digits_value 10 (run is_ascii_digit digits)) (trim_start (after_run is_ascii_digit digits))
    else unread

-- the index, from 0, of the month that has a word as its English name or abbreviation, in any ASCII case
abbrev pub month_named : List ℕ → Option ℕ
month_named word = option_map month_index (month_of_word word)

-- the month that the ASCII letters at the start of a text name, or `None`, and the text after these letters
abbrev pub named_month : List ℕ → Parsed (Option ℕ)
named_month text = says (month_named (run is_ascii_alphabetic text), after_run is_ascii_alphabetic text)

-- the month field: one or two digits, otherwise the ASCII letters after any other number of digits; and the text after it.
-- Letters that name no month aren't an error.
unfoldable pub month_field : List ℕ → Parsed (Option ℕ)
month_field text =
    let here = trim_start text in
    let n = digits_value 10 (run is_ascii_digit here) in
    let rest_after = after_run is_ascii_digit here in
    if lies 1 2 (prefix_len is_ascii_digit here) then (if lies 1 12 n then says (Some (n - 1), rest_after) else error MonthOutOfRange)
    else named_month rest_after

-- whether a character is white space, such as a no-break space, or a hyphen
abbrev pub is_separator : ℕ → Bool
is_separator c = is_whitespace c || c == char.hyphen

-- a text without the white space and hyphens at its start
abbrev pub after_gap : List ℕ → List ℕ
after_gap text = encode_utf8_all (rest_after is_separator (chars text))

-- a day from 1 to 31, counted from 0
abbrev pub day_number : List ℕ → Option ℕ
day_number digits = if lies 1 31 (digits_value 10 digits) then Some (digits_value 10 digits - 1) else None

-- a day, or the error that it is out of range
abbrev pub reported_day : Option ℕ → Reading (Option ℕ)
reported_day (Some day) = says (Some day)
reported_day None = error DayOutOfRange

-- the day after a month: ASCII digits after a gap; without a gap there is no day
unfoldable pub day_after : List ℕ → Reading (Option ℕ)
day_after text =
    let here = after_gap text in
    if length here == length text then says None
    else if prefix_len is_ascii_digit here == 0 then unread
    else reported_day (day_number (run is_ascii_digit here))

-- the span of the digits of a day after a month, in bytes of the month's text; `following` is the text after the month
abbrev pub day_place : List ℕ → List ℕ → Range ℕ
day_place month following = record {
  start = length month - length (after_gap following);
  end = length month - length (after_run is_ascii_digit (after_gap following));
}

-- a day from 1 to 31 in a text of ASCII digits only; the error is `DayOutOfRange` only for another number of at most 255
unfoldable pub only_day : List ℕ → Reading (Option ℕ)
only_day text =
    if length (after_run is_ascii_digit text) == 0
    && (not (prefix_len is_ascii_digit text == 0) && not (nat_lt 255 (digits_value 10 (run is_ascii_digit text))))
    then reported_day (day_number (run is_ascii_digit text)) else unread

-- the day field: a decimal number from 1 to 31, maybe after a plus, and with white space around them
unfoldable pub day_field : List ℕ → Reading (Option ℕ)
day_field text = if begins_with char.plus (trim text) then only_day (drop 1 (trim text)) else only_day (trim text)

-- the day: that of the day field, if there is one, otherwise the one after the month
abbrev pub day_of : Option (List ℕ) → List ℕ → Reading (Option ℕ)
day_of None rest_after = day_after rest_after
day_of (Some text) rest_after = day_field text

-- a month, and the day of the day field or after the month
unfoldable pub month_with_day : List ℕ → Option (List ℕ) → Reading (Option ℕ × Option ℕ)
month_with_day text day = do
  month ← month_field text
  at ← day_of day month.1
  says (month.0, at)

-- month and day; without a month field the day is ignored
abbrev pub month_and_day : Option (List ℕ) → Option (List ℕ) → Reading (Option ℕ × Option ℕ)
month_and_day None day = says (None, None)
month_and_day (Some text) day = month_with_day text day

-- a date without a time and without a mark
abbrev pub on_day : ℤ → Option ℕ → Option ℕ → Date
on_day year month day = record { value = At (datetime year month day None); uncertain = false; approximate = false }

-- the result of parsing three fields
unfoldable pub three_fields_of : List ℕ → Option (List ℕ) → Option (List ℕ) → Reading Date
three_fields_of year month day = do
  y ← year_field year
  parts ← month_and_day month day
  says (on_day y parts.0 parts.1)
