use Rattle.edit_merge.proofs.UnchangedFacts.{unchanged_theirs_gives_ours}
use Rattle.edit_merge.proofs.laws.unchanged_theirs_gives_ours.Goals as goal

pub returns : goal.returns
returns c markers base side are_base are fits = unchanged_theirs_gives_ours markers base side are_base are fits
