use Rattle.edit_entries.proofs.SetLawFacts.{set_there}
use Rattle.edit_entries.proofs.laws.set_is_there.Goals as goal

pub returns : goal.returns
returns c d after key name value set = set_there set
