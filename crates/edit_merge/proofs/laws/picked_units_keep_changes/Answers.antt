use Rattle.edit_merge.proofs.LostFacts.{our_change_kept, their_change_kept}
use Rattle.edit_merge.proofs.laws.picked_units_keep_changes.Goals as goal

pub returns-clause-ours : goal.returns-clause-ours
returns-clause-ours c vs name is = our_change_kept vs name is

pub returns-clause-theirs : goal.returns-clause-theirs
returns-clause-theirs c vs name is = their_change_kept vs name is
