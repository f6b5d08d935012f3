-- Meaning: words of public contracts.
-- The blank lines between units.
use Rattle.std.specs.Prelude.{◌≡◌, ◌==◌, ℕ, true, List, [], ◌∷◌, drop, length, ⊤}
use Rattle.std.specs.List.{list_any}
use Rattle.bib_text.specs.Characters as char
use Rattle.bib_text.specs.Places.{between, place}
use Rattle.edit_units.specs.Units.{UnitReading}

-- the white space from an offset up to the first of these units, if there is one, has a line feed behind its first character
abbrev pub HasBlankLine : List ℕ → ℕ → List UnitReading → Type 0
HasBlankLine text at [] = ⊤
HasBlankLine text at (u ∷ us) = list_any (λ b. b == char.line_feed) (drop 1 (between (place text at) (place text u.start))) ≡ true

-- a blank line is between each unit without blocks and the next unit
abbrev pub AreSeparated : List ℕ → List UnitReading → Type 0
AreSeparated text [] = ⊤
AreSeparated text (u ∷ us) = ((length u.blocks == 0) ≡ true → HasBlankLine text u.end us) × AreSeparated text us
