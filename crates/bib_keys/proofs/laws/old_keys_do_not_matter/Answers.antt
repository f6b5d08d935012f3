use Rattle.bib_keys.proofs.LawFacts.{one_keys}
use Rattle.bib_keys.proofs.laws.old_keys_do_not_matter.Goals as goal

pub returns : goal.returns
returns c = one_keys
