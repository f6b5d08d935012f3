-- Meaning: words of public contracts.
-- The parts of dates in texts: numbers, signs, hyphens and colons. A text is a list of its bytes: all signs of a date
-- are ASCII, and white space is Unicode's.
use Rattle.std.specs.Prelude.{ℕ, Bool, true, false, ◌&&◌, ◌==◌, nat_lt, not, if◌then◌else◌, ℤ, pos, neg_ℤ, ◌+ℤ◌, List, take, drop, slice_index}
use Rattle.std.specs.List.{prefix_len}
use Rattle.std.specs.Char.{is_ascii_digit}
use Rattle.std.specs.Str.{trim_start}
use Rattle.std.specs.Str.Parse.{digits_value}
use Rattle.std.specs.Ordering.{int_cmp, is_lt}
use Rattle.bib_tables.specs.declared.type_error.TypeErrorKind.{TypeErrorKind}
use Rattle.bib_dates.specs.Readings.{Reading, ◌>>=◌, Parsed}
use Rattle.bib_dates.specs.Readings.Reading.{says, error, unread}
use Rattle.bib_text.specs.Characters as char

-- the longest run of bytes that pass `test` at the start of a text
abbrev pub run : (ℕ → Bool) → List ℕ → List ℕ
run test text = take (prefix_len test text) text

-- the text after the longest run of bytes that pass `test` at the start
abbrev pub after_run : (ℕ → Bool) → List ℕ → List ℕ
after_run test text = drop (prefix_len test text) text

-- whether a number is from `low` to `high`
abbrev pub lies : ℕ → ℕ → ℕ → Bool
lies low high n = not (nat_lt n low) && not (nat_lt high n)

-- a number of `low` to `high` ASCII digits after white space, with no ASCII digit after them
unfoldable pub number : ℕ → ℕ → List ℕ → Parsed ℕ
number low high text =
    let here = trim_start text in
    if lies low high (prefix_len is_ascii_digit here)
    then says (digits_value 10 (run is_ascii_digit here), after_run is_ascii_digit here)
    else unread

-- one or two digits that are a number from `low` to `high`; `kind` is the error if the number is another
unfoldable pub small_number : ℕ → ℕ → TypeErrorKind → List ℕ → Parsed ℕ
small_number low high kind text = do
  n ← number 1 2 text
  if lies low high n.0 then says n else error kind

-- whether a text begins with this byte, which is not 0
abbrev pub begins_with : ℕ → List ℕ → Bool
begins_with byte text = slice_index text 0 == byte

-- the text after this byte; it is unread if the text doesn't begin with the byte
abbrev pub after_byte : ℕ → List ℕ → Reading (List ℕ)
after_byte byte text = if begins_with byte text then says (drop 1 text) else unread

-- the text after white space and a colon at the start
abbrev pub after_colon : List ℕ → Reading (List ℕ)
after_colon text = after_byte char.colon (trim_start text)

-- the text after white space and a run of hyphens at the start
unfoldable pub after_hyphens : List ℕ → Reading (List ℕ)
after_hyphens text = do
  rest ← after_byte char.hyphen (trim_start text)
  says (after_run (λ b. b == char.hyphen) rest)

-- whether a sign at the start is a minus, and the text after it; without a sign, the whole text
unfoldable pub sign : List ℕ → Bool × List ℕ
sign text =
    if begins_with char.hyphen text then (true, drop 1 text) else if begins_with char.plus text
    then (false, drop 1 text) else (false, text)

-- a number with its sign
abbrev pub with_sign : Bool → ℕ → ℤ
with_sign is_minus n = if is_minus then neg_ℤ (pos n) else pos n

-- the year for a signed number of two digits: 2000 is added to one below 50, 1900 to others
abbrev pub of_century : ℤ → ℤ
of_century y = if is_lt (int_cmp y (pos 50)) then y +ℤ pos 2000 else y +ℤ pos 1900

-- a year of two or four ASCII digits after white space, with an optional sign, which white space may follow
unfoldable pub year : List ℕ → Parsed ℤ
year text =
    let here = sign (trim_start text) in
    let digits = trim_start here.1 in
    let y = with_sign here.0 (digits_value 10 (run is_ascii_digit digits)) in
    if prefix_len is_ascii_digit digits == 2 then says (of_century y, after_run is_ascii_digit digits)
    else if prefix_len is_ascii_digit digits == 4 then says (y, after_run is_ascii_digit digits) else unread
