use Rattle.edit_units.proofs.JoinFacts.{parts_are_read}
use Rattle.edit_units.proofs.laws.parts_are_read.Goals as goal

pub returns : goal.returns
returns c parts end are = parts_are_read parts end are
