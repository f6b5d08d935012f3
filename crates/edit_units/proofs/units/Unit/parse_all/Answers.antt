use Rattle.edit_units.proofs.UnitFacts.{lines_within}
use Rattle.edit_units.proofs.units.Unit.parse_all.Goals as goal

pub units_of_lines-requires : goal.units_of_lines-requires
units_of_lines-requires c = lines_within c.in_ok-lines.ensures.found
