use Rattle.std.proofs.Common.{arith}
use Rattle.std.proofs.lemmas.Grind.{common_steps}
use Rattle.bib_people.proofs.people.read_people.Goals as goal

pub returns : goal.returns
returns c = grind (arith, common_steps)

pub people-preserved : goal.people-preserved
people-preserved c = grind (arith, common_steps)
