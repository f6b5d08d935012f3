use Rattle.edit_merge.proofs.CleanFacts.{resolved_merges_are_read}
use Rattle.edit_merge.proofs.laws.resolved_merges_are_read.Goals as goal

pub returns : goal.returns
returns c vs takes places have = resolved_merges_are_read vs takes places have
