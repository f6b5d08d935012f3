use Rattle.std.proofs.Common.{arith}
use Rattle.std.proofs.lemmas.Grind.{common_steps}
use Rattle.bib_syntax.proofs.raw.recovery.ends_blank.Goals as goal

pub returns-then-contains : goal.returns-then-contains
returns-then-contains c = grind (arith, common_steps)

pub returns-else-contains : goal.returns-else-contains
returns-else-contains c = grind (arith, common_steps)
