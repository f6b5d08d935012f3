use Rattle.edit_sort.proofs.ParentFacts.{parents_follow}
use Rattle.edit_sort.proofs.laws.parents_follow.Goals as goal

pub returns : goal.returns
returns c d places order i j parent child in_order at_i at_j run refers fine =
    parents_follow d places order i j parent child in_order at_i at_j run refers fine
