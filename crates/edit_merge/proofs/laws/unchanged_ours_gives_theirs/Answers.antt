use Rattle.edit_merge.proofs.UnchangedFacts.{unchanged_ours_gives_theirs}
use Rattle.edit_merge.proofs.laws.unchanged_ours_gives_theirs.Goals as goal

pub returns : goal.returns
returns c markers base side are_base are fits = unchanged_ours_gives_theirs markers base side are_base are fits
