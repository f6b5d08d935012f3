-- Meaning: words of public contracts.
-- Numbers in the digits of one script beyond ASCII, such as Persian years. Biber 2.18 reads them as numbers: a `year` by `num` of Perl's
-- Unicode::UCD, which requires digits of one script (Biber::Input::file::bibtex), and the year of a `date` if it has four digits.
use Rattle.std.specs.Prelude.{ℕ, ◌+◌, Bool, false, not, ◌==◌, ◌&&◌, List, [], ◌∷◌, chars, length, nat_lt}
use Rattle.std.specs.List.{list_all, list_any}

-- the digits zero beyond ASCII. The ten digits of a script are its zero and the nine characters after it (Unicode 14.0, category Nd)
abbrev pub digit_zeros : List ℕ
digit_zeros =
    1632 ∷ 1776 ∷ 1984 ∷ 2406 ∷ 2534 ∷ 2662 ∷ 2790 ∷ 2918 ∷ 3046 ∷ 3174 ∷ 3302 ∷ 3430 ∷ 3558 ∷ 3664 ∷ 3792 ∷ 3872 ∷ 4160 ∷ 4240 ∷
    6112 ∷ 6160 ∷ 6470 ∷ 6608 ∷ 6784 ∷ 6800 ∷ 6992 ∷ 7088 ∷ 7232 ∷ 7248 ∷ 42528 ∷ 43216 ∷ 43264 ∷ 43472 ∷ 43504 ∷ 43600 ∷ 44016 ∷
    65296 ∷ 66720 ∷ 68912 ∷ 69734 ∷ 69872 ∷ 69942 ∷ 70096 ∷ 70384 ∷ 70736 ∷ 70864 ∷ 71248 ∷ 71360 ∷ 71472 ∷ 71904 ∷ 72016 ∷
    72784 ∷ 73040 ∷ 73120 ∷ 92768 ∷ 92864 ∷ 93008 ∷ 120782 ∷ 120792 ∷ 120802 ∷ 120812 ∷ 120822 ∷ 123200 ∷ 123632 ∷ 125264 ∷
    130032 ∷ []

-- whether a character is one of the ten digits from this zero on
abbrev pub is_digit_from : ℕ → ℕ → Bool
is_digit_from first c = not (nat_lt c first) && nat_lt c (first + 10)

-- whether a character is a digit of a script beyond ASCII
unfoldable pub is_other_digit : ℕ → Bool
is_other_digit c = list_any (λ first. is_digit_from first c) digit_zeros

-- whether the first of these characters is such a digit
abbrev pub begins_other : List ℕ → Bool
begins_other [] = false
begins_other (c ∷ rest) = is_other_digit c

-- whether a text begins with a digit of a script beyond ASCII
abbrev pub begins_with_other_digit : List ℕ → Bool
begins_with_other_digit text = begins_other (chars text)

-- whether each character of a text is one of the ten digits from this zero on
abbrev pub are_digits_from : List ℕ → ℕ → Bool
are_digits_from text first = list_all (is_digit_from first) (chars text)

-- whether a text isn't empty, and consists of the digits of one script beyond ASCII
unfoldable pub are_other_digits : List ℕ → Bool
are_other_digits text = not (length text == 0) && list_any (are_digits_from text) digit_zeros

-- whether a text consists of four digits of one script beyond ASCII
unfoldable pub is_other_year : List ℕ → Bool
is_other_year text = length (chars text) == 4 && are_other_digits text
