use Rattle.edit_convert.proofs.ApartFacts.{names_apart}
use Rattle.edit_convert.proofs.laws.names_stay_apart.Goals as goal

pub returns : goal.returns
returns c dialect e f name is = names_apart dialect e f name is
