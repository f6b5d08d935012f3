-- Meaning: words of public contracts.
-- The year in a text, as a number.
use Rattle.std.specs.Prelude.{ℕ, ◌+◌, ◌-◌, ◌^◌, Bool, not, List, [], ◌∷◌, Option, None, Some, bytes_eq, codes, drop, if◌then◌else◌, min, take}
use Rattle.std.specs.Char.{is_ascii_digit}
use Rattle.std.specs.List.{prefix_len}
use Rattle.std.specs.Str.{trim}
use Rattle.std.specs.Str.Parse.{digits_value}

-- the greatest distance of a year from 0. A year that is farther from 0 counts as the year at this distance on the same side
abbrev pub most : ℕ
most = 10 ^ 18

-- the text before the first ASCII digit, or the whole text if it has none
abbrev pub before_digits : List ℕ → List ℕ
before_digits text = take (prefix_len (λ byte. not (is_ascii_digit byte)) text) text

-- the text from the first ASCII digit on, or nothing if it has none
abbrev pub from_digits : List ℕ → List ℕ
from_digits text = drop (prefix_len (λ byte. not (is_ascii_digit byte)) text) text

-- the first ASCII digits in a row
abbrev pub first_digits : List ℕ → List ℕ
first_digits text = take (prefix_len is_ascii_digit (from_digits text)) (from_digits text)

-- the year that digits write, before year 0 if the flag is true. Years are counted from `-most`, so that they are natural numbers.
abbrev pub counted : Bool → List ℕ → Option ℕ
counted is_before [] = None
counted is_before (d ∷ ds) =
    Some (if is_before then most - min (digits_value 10 (d ∷ ds)) most else most + min (digits_value 10 (d ∷ ds)) most)

-- the year in a text: the first ASCII digits in a row, before year 0 if the text before them is a hyphen
abbrev pub year_by_digits : List ℕ → Option ℕ
year_by_digits text = counted (bytes_eq (before_digits text) (codes "-")) (first_digits text)

-- the year in a text, without regard to white space at its ends
abbrev pub year_number : List ℕ → Option ℕ
year_number text = year_by_digits (trim text)
