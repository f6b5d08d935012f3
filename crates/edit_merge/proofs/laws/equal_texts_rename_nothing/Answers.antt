use Rattle.edit_merge.proofs.RenameLawFacts.{equal_texts_stay, ours_equal, sides_equal, theirs_equal}
use Rattle.edit_merge.proofs.laws.equal_texts_rename_nothing.Goals as goal

pub returns-clause-theirs : goal.returns-clause-theirs
returns-clause-theirs c vs ds texts same are have = equal_texts_stay vs ds texts (theirs_equal vs same) are have

pub returns-clause-ours : goal.returns-clause-ours
returns-clause-ours c vs ds texts same are have = equal_texts_stay vs ds texts (ours_equal vs same) are have

pub returns-clause-sides : goal.returns-clause-sides
returns-clause-sides c vs ds texts same are have = equal_texts_stay vs ds texts (sides_equal vs same) are have
