use Rattle.bib_syntax.proofs.RecoveryFacts.{all_parsed, all_read}
use Rattle.bib_syntax.proofs.laws.recovered_is_read.Goals as goal

pub returns-clause-recovery : goal.returns-clause-recovery
returns-clause-recovery c text says = (all_parsed, all_read)

pub returns-clause-full : goal.returns-clause-full
returns-clause-full c text says = (all_parsed, all_read)
