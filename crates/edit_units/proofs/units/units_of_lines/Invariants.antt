use Rattle.std.proofs.Common.{length}
use Rattle.edit_units.proofs.UnitFacts.{AreMade}
use Rattle.edit_units.proofs.units.units_of_lines.Given as goal

-- the units of the lines that were popped
abbrev pub invariant-lines : goal.invariant-lines
invariant-lines l = AreMade l.text l.fn.lines.items l.lines.items l.units.items l.is_filled

abbrev pub decreases-lines : goal.decreases-lines
decreases-lines l = length l.lines.items
