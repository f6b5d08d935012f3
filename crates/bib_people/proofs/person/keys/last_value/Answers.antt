use Rattle.std.proofs.Common.{arith}
use Rattle.std.proofs.lemmas.Grind.{common_steps}
use Rattle.bib_people.proofs.person.keys.last_value.Goals as goal

pub returns : goal.returns
returns c = grind (arith, common_steps)

pub parts-preserved : goal.parts-preserved
parts-preserved c = grind (arith, common_steps)
