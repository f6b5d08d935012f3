use Rattle.std.proofs.Common.{arith}
use Rattle.std.proofs.lemmas.Grind.{common_steps}
use Rattle.bib_people.proofs.person.commas.whole_person.Goals as goal

pub returns : goal.returns
returns c = grind (arith, common_steps)
