use Rattle.bib_keys.proofs.LawFacts.{one_pattern}
use Rattle.bib_keys.proofs.laws.a_text_is_one_pattern.Goals as goal

pub returns : goal.returns
returns c = one_pattern
