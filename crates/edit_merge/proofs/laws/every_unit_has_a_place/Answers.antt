use Rattle.edit_merge.proofs.WovenFacts.{our_units_have_places, their_units_have_places}
use Rattle.edit_merge.proofs.laws.every_unit_has_a_place.Goals as goal

pub returns-clause-ours : goal.returns-clause-ours
returns-clause-ours c vs fits fits' name has = our_units_have_places vs fits fits' name has

pub returns-clause-theirs : goal.returns-clause-theirs
returns-clause-theirs c vs fits fits' name has = their_units_have_places vs fits fits' name has
