use Rattle.std.proofs.Common.{suc, arith, true, false}
use Rattle.bib_syntax.proofs.FileOutcomes.{recovery_found}
use Rattle.bib_syntax.proofs.LeftFacts.{text_left}
use Rattle.bib_syntax.proofs.laws.has_recovery.Goals as goal

pub returns-clause-recovery : goal.returns-clause-recovery
returns-clause-recovery c text utf8 = let left = text_left text utf8 in recovery_found false (suc left.0) (omega arith) left.1

pub returns-clause-full : goal.returns-clause-full
returns-clause-full c text utf8 = let left = text_left text utf8 in recovery_found true (suc left.0) (omega arith) left.1
