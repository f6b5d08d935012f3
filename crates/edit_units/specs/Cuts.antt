-- Machinery: words of private contracts.
-- A text may be cut where its units begin and end, and its lines are within it.
use Rattle.std.specs.Prelude.{ℕ, ◌≤◌, List, [], ◌∷◌, length}
use Rattle.std.specs.Str.{IsCharBoundary}
use Rattle.bib_syntax.specs.Lines.{LineReading}
use Rattle.edit_entries.specs.Cuts.{CanBeCut}
use Rattle.edit_units.specs.Units.{UnitReading}

-- units, and the white space before each from a byte offset on, may be cut out of a text
abbrev pub AreUnitsCut : List ℕ → ℕ → List UnitReading → Type 0
AreUnitsCut text at [] = IsCharBoundary text at
AreUnitsCut text at (u ∷ us) = CanBeCut text at u.start × CanBeCut text u.start u.end × AreUnitsCut text u.end us

-- a line is within a text
pub record IsWithin (text : List ℕ) (l : LineReading) : Type 0 where
  pub order : l.start ≤ l.end
  pub end : l.end ≤ length text
