use Rattle.std.proofs.Common.{refl, arith}
use Rattle.bib_syntax.specs.Recovery.{Reached}
use Rattle.bib_syntax.proofs.RecoveryFacts.{nothing_lost}
use Rattle.bib_syntax.proofs.laws.nothing_is_lost.Goals as goal

pub returns-clause-recovery : goal.returns-clause-recovery
returns-clause-recovery c text says errors e recovers is = nothing_lost text e Reached.here refl (omega arith) is recovers

pub returns-clause-full : goal.returns-clause-full
returns-clause-full c text says errors e recovers is = nothing_lost text e Reached.here refl (omega arith) is recovers
