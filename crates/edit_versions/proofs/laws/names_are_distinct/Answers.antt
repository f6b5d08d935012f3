use Rattle.edit_versions.proofs.ApartFacts.{names_are_distinct}
use Rattle.edit_versions.proofs.laws.names_are_distinct.Goals as goal

pub returns : goal.returns
returns c v fits = names_are_distinct v fits
