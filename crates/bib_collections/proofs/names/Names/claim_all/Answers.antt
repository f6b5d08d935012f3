use Rattle.std.proofs.Common.{arith}
use Rattle.std.proofs.lemmas.Grind.{common_steps}
use Rattle.bib_collections.proofs.names.Names.claim_all.Goals as goal

pub returns-clause-claimed : goal.returns-clause-claimed
returns-clause-claimed c = grind (arith, common_steps)
