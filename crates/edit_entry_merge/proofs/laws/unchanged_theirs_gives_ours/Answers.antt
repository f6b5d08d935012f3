use Rattle.edit_entry_merge.proofs.UnchangedFacts.{unchanged}
use Rattle.edit_entry_merge.proofs.laws.unchanged_theirs_gives_ours.Goals as goal

pub returns : goal.returns
returns c base ours theirs b o t is_b is_o is_t same frame = unchanged base ours theirs b o t is_b is_o is_t same frame
