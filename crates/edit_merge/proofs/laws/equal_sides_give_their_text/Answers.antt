use Rattle.edit_merge.proofs.UnchangedFacts.{equal_sides_give_their_text}
use Rattle.edit_merge.proofs.laws.equal_sides_give_their_text.Goals as goal

pub returns : goal.returns
returns c markers base side are fits = equal_sides_give_their_text markers base side are fits
