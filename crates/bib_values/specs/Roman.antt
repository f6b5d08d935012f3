-- Meaning: words of public contracts.
-- Roman numerals from 1 to 3,999, as in years and page numbers. Each decimal digit has at most four letters.
use Rattle.std.specs.Prelude.{ℕ, ◌/◌, ◌%◌, ◌==◌, nat_le, if◌then◌else◌, Bool, ◌||◌, List, [], ◌++◌, codes, Option, bytes_eq}
use Rattle.std.specs.List.{repeat, find, range_with_len}
use Rattle.std.specs.Str.{str_to_ascii_lowercase}

-- The letters of a decimal digit, from the letters for one, five and ten of its power of ten. 4 and 9 are the letter for
-- one before that for five or ten. Any other digit is the letter for five if it is at least 5, and then the letter for one
-- for each further unit.
abbrev pub digit_letters : List ℕ → List ℕ → List ℕ → ℕ → List ℕ
digit_letters one five ten digit =
    if digit == 4 then one ++ five
    else if digit == 9 then one ++ ten
    else (if nat_le 5 digit then five else []) ++ repeat (digit % 5) one

-- the numeral of a number below 4,000, in upper case: thousands, hundreds, tens and ones
unfoldable pub roman : ℕ → List ℕ
roman n =
    digit_letters (codes "M") [] [] (n / 1000) ++ digit_letters (codes "C") (codes "D") (codes "M") (n / 100 % 10)
    ++ digit_letters (codes "X") (codes "L") (codes "C") (n / 10 % 10) ++ digit_letters (codes "I") (codes "V") (codes "X") (n % 10)

-- whether a text is the numeral of a number, all in upper case or all in lower case
abbrev pub spells : List ℕ → ℕ → Bool
spells text n = bytes_eq text (roman n) || bytes_eq text (str_to_ascii_lowercase (roman n))

-- the number from 1 to 3,999 whose numeral is this text, if there is one
unfoldable pub roman_of : List ℕ → Option ℕ
roman_of text = find (spells text) (range_with_len 1 3999)
