use Rattle.edit_convert.proofs.ApartFacts.{joined_apart}
use Rattle.edit_convert.proofs.laws.joined_stays_apart.Goals as goal

pub returns : goal.returns
returns c dialect defines text e date is = joined_apart dialect defines text e date is
