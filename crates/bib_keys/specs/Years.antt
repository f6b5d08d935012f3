-- Meaning: words of public contracts.
-- The year in a key.
use Rattle.std.specs.Prelude.{ℕ, ◌&&◌, Bool, true, false, if◌then◌else◌, List, [], ◌∷◌, drop, length, nat_le, take}
use Rattle.std.specs.Char.{is_ascii_digit}
use Rattle.std.specs.List.{list_all}

-- whether a text begins with four ASCII digits
abbrev pub begins_with_year : List ℕ → Bool
begins_with_year text = nat_le 4 (length text) && list_all is_ascii_digit (take 4 text)

-- the first four ASCII digits in a row, or nothing
abbrev pub four_digits : List ℕ → List ℕ
four_digits [] = []
four_digits (c ∷ text) = if begins_with_year (c ∷ text) then take 4 (c ∷ text) else four_digits text

-- the first four ASCII digits in a row, or nothing; only the last two of them if the flag is true
abbrev pub year_digits : Bool → List ℕ → List ℕ
year_digits false text = four_digits text
year_digits true text = drop 2 (four_digits text)
