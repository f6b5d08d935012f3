use Rattle.std.proofs.Common.{arith}
use Rattle.std.proofs.lemmas.Grind.{common_steps}
use Rattle.bib_people.proofs.person.words.write_letters.Goals as goal

pub returns : goal.returns
returns c = grind (arith, common_steps)

pub letters-preserved : goal.letters-preserved
letters-preserved c = grind (arith, common_steps)
