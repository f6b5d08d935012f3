-- Machinery: words of private contracts.
-- A text may be cut where its units and their blocks begin and end.
use Rattle.std.specs.Prelude.{ℕ, List}
use Rattle.std.specs.declared.ops.Range.{Range}
use Rattle.std.specs.List.{AllByRecursion}
use Rattle.edit_entries.specs.Cuts.{CanBeCut}
use Rattle.edit_units.specs.Units.{UnitReading}

-- these blocks may be cut out of a text
abbrev pub AreBlocksCut : List ℕ → List (Range ℕ) → Type 0
AreBlocksCut text blocks = AllByRecursion (λ block. CanBeCut text block.start block.end) blocks

-- a unit and its blocks may be cut out of a text
pub record IsUnitCut (text : List ℕ) (u : UnitReading) : Type 0 where
  pub unit : CanBeCut text u.start u.end
  pub blocks : AreBlocksCut text u.blocks
