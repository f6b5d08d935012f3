use Rattle.edit_convert.proofs.ApartFacts.{joined_is_the_same}
use Rattle.edit_convert.proofs.laws.joined_is_the_same.Goals as goal

pub returns : goal.returns
returns c dialect defines text e date is = joined_is_the_same dialect defines text e date is
