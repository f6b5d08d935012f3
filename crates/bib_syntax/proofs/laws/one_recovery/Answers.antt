use Rattle.bib_syntax.proofs.RecoveryFacts.{recovery_same, same_skipped}
use Rattle.bib_syntax.proofs.laws.one_recovery.Goals as goal

pub returns-clause-recovery : goal.returns-clause-recovery
returns-clause-recovery c text says tells errors others first second = recovery_same first second

pub returns-clause-full : goal.returns-clause-full
returns-clause-full c text says tells errors others first second = recovery_same first second

pub returns-clause-both : goal.returns-clause-both
returns-clause-both c text says tells errors others first second = same_skipped first second
