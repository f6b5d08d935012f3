-- Machinery: words of private contracts.
-- The number of a roman numeral from its letters.
use Rattle.std.specs.Prelude.{ℕ, ◌+◌, ◌-◌, ◌&&◌, ◌||◌, ◌==◌, nat_lt, nat_le, if◌then◌else◌, List, [], ◌∷◌, length, Option, Some, None}
use Rattle.bib_values.specs.Roman.{spells}
use Rattle.bib_text.specs.Characters as char

-- the value of a letter by itself, in upper or lower case; 0 if it is no roman digit
abbrev pub letter_value : ℕ → ℕ
letter_value c =
    if c == char.upper_i || c == char.letter_i then 1 else if c == char.upper_v || c == char.letter_v then 5
    else if c == char.upper_x || c == char.letter_x then 10
    else if c == char.upper_l || c == char.letter_l then 50 else if c == char.upper_c || c == char.letter_c then 100
    else if c == char.upper_d || c == char.letter_d then 500
    else if c == char.upper_m || c == char.letter_m then 1000 else 0

-- the value of the first letter; 0 if there is none
abbrev pub first_value : List ℕ → ℕ
first_value [] = 0
first_value (c ∷ rest) = letter_value c

-- the value of letters. `value` is that of the first one, `next` that of the second one, and `total` that of all
-- letters after the first. The first value is subtracted if the next one is greater, otherwise added.
abbrev pub with_letter : ℕ → ℕ → ℕ → ℕ
with_letter value next total = if nat_lt value next then total - value else total + value

-- the value of letters
unfoldable pub letters_value : List ℕ → ℕ
letters_value [] = 0
letters_value (c ∷ rest) = with_letter (letter_value c) (first_value rest) (letters_value rest)

-- the number that the letters of a text add up to, if it is from 1 to 3,999 and the text is its numeral. A numeral has at
-- most 15 letters
unfoldable pub by_letters : List ℕ → Option ℕ
by_letters text =
    if nat_le (length text) 15 && nat_lt 0 (letters_value text) && nat_lt (letters_value text) 4000 && spells text (letters_value text)
    then Some (letters_value text) else None
