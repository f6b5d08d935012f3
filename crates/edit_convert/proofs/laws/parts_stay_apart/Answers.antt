use Rattle.edit_convert.proofs.ApartFacts.{parts_apart}
use Rattle.edit_convert.proofs.laws.parts_stay_apart.Goals as goal

pub returns : goal.returns
returns c dialect e f sides is = parts_apart dialect e f sides is
