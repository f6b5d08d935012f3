use Rattle.edit_entry_merge.proofs.ExchangeFacts.{choice_exchanged}
use Rattle.edit_entry_merge.proofs.laws.sides_can_be_exchanged.Goals as goal

pub returns : goal.returns
returns c vs name differ = choice_exchanged vs name differ
