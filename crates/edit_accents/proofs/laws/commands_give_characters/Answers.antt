use Rattle.edit_accents.proofs.ReadBackFacts.{read_back}
use Rattle.edit_accents.proofs.laws.commands_give_characters.Goals as goal

pub returns : goal.returns
returns c = read_back
