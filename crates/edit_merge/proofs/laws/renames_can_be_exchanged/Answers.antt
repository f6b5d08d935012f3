use Rattle.edit_merge.proofs.RenameLawFacts.{renames_exchanged}
use Rattle.edit_merge.proofs.laws.renames_can_be_exchanged.Goals as goal

pub returns : goal.returns
returns c vs texts have = renames_exchanged vs texts have
