use Rattle.std.proofs.Common.{arith}
use Rattle.std.proofs.lemmas.Grind.{common_steps}
use Rattle.bib_collections.proofs.cycles.first_on_cycle.Goals as goal

pub returns-then-index : goal.returns-then-index
returns-then-index c = grind (arith, common_steps)

pub unreachable-requires : goal.unreachable-requires
unreachable-requires c = grind (arith, common_steps)
