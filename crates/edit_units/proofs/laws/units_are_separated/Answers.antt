use Rattle.edit_units.proofs.CutFacts.{units_are_separated}
use Rattle.edit_units.proofs.laws.units_are_separated.Goals as goal

pub returns : goal.returns
returns c text units are = units_are_separated text units are
