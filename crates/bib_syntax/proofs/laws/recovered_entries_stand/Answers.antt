use Rattle.std.proofs.Common.{refl}
use Rattle.bib_syntax.proofs.RecoveryFacts.{entries_stand, full_entries_stand}
use Rattle.bib_syntax.proofs.laws.recovered_entries_stand.Goals as goal

pub returns-clause-recovery : goal.returns-clause-recovery
returns-clause-recovery c text says errors recovers = entries_stand text refl recovers

pub returns-clause-full : goal.returns-clause-full
returns-clause-full c text says errors recovers = full_entries_stand text refl recovers
