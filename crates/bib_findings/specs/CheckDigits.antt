-- Meaning: words of public contracts.
-- The check digits of standard numbers: ISBN (ISO 2108) and ISSN (ISO 3297).
use Rattle.std.specs.Prelude.{ℕ, ◌+◌, ◌-◌, ◌*◌, ◌%◌, Bool, ◌==◌, ◌&&◌, ◌||◌, List, [], ◌∷◌, codes, if◌then◌else◌, length, nat_eq, take}
use Rattle.std.specs.Char.{is_ascii_digit}
use Rattle.std.specs.List.{list_all, list_any}
use Rattle.bib_text.specs.Characters as char

-- whether a byte occurs in numbers: a digit, or `X` in either case
abbrev pub is_digit_or_x : ℕ → Bool
is_digit_or_x b = is_ascii_digit b || list_any (λ one. b == one) (codes "Xx")

-- the value of a digit; any other byte, such as `X`, is 10
abbrev pub digit_value : ℕ → ℕ
digit_value b = if is_ascii_digit b then b - char.zero else 10

-- the sum of the digits, each multiplied by the number of digits from it to the end: by 10 to 1 in an ISBN of ten
-- digits, by 8 to 1 in an ISSN
abbrev pub descending_sum : List ℕ → ℕ
descending_sum [] = 0
descending_sum (b ∷ rest) = digit_value b * (length rest + 1) + descending_sum rest

-- the sum of the digits, multiplied in turn by `weight` and by 4 less `weight`: from 1 on by 1, 3, 1, 3 ..
abbrev pub alternating_sum : ℕ → List ℕ → ℕ
alternating_sum weight [] = 0
alternating_sum weight (b ∷ rest) = digit_value b * weight + alternating_sum (4 - weight) rest

-- whether the check digit of an ISSN or of an ISBN of ten digits is right: the sum is a multiple of 11. Only this digit, the last one, may
-- be `X`
abbrev pub is_check_right_by_11 : List ℕ → Bool
is_check_right_by_11 digits = list_all is_ascii_digit (take (length digits - 1) digits) && descending_sum digits % 11 == 0

-- whether the check digit of an ISBN of 13 digits is right: the sum is a multiple of 10
abbrev pub is_check_right_by_10 : List ℕ → Bool
is_check_right_by_10 digits = list_all is_ascii_digit digits && alternating_sum 1 digits % 10 == 0

-- whether digits have the length and the check digit of an ISBN
abbrev pub is_isbn : List ℕ → Bool
is_isbn digits = (nat_eq (length digits) 10 && is_check_right_by_11 digits) || (nat_eq (length digits) 13 && is_check_right_by_10 digits)

-- whether digits have the length and the check digit of an ISSN
abbrev pub is_issn : List ℕ → Bool
is_issn digits = length digits == 8 && is_check_right_by_11 digits
