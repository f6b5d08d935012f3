use Rattle.std.proofs.Common.{arith}
use Rattle.std.proofs.lemmas.Grind.{common_steps}
use Rattle.bib_source.proofs.comparison.push_added.Goals as goal

pub returns : goal.returns
returns c = grind (arith, common_steps)

pub lines-preserved : goal.lines-preserved
lines-preserved c = grind (arith, common_steps)
