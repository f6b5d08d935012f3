use Rattle.edit_merge.proofs.CleanFacts.{clean_merges_are_read}
use Rattle.edit_merge.proofs.laws.clean_merges_are_read.Goals as goal

pub returns : goal.returns
returns c markers vs places have clean = clean_merges_are_read markers vs places have clean
