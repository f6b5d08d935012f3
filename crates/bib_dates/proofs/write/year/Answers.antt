use Rattle.std.proofs.Common.{arith}
use Rattle.std.proofs.lemmas.Grind.{common_steps}
use Rattle.bib_dates.proofs.write.year.Goals as goal

pub returns : goal.returns
returns c = grind (arith, common_steps)
