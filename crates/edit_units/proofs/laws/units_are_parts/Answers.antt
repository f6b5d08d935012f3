use Rattle.edit_units.proofs.CutFacts.{units_are_parts}
use Rattle.edit_units.proofs.laws.units_are_parts.Goals as goal

pub returns : goal.returns
returns c text units are = units_are_parts text units are
