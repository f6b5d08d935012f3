use Rattle.std.proofs.Common.{arith}
use Rattle.std.proofs.lemmas.Grind.{common_steps}
use Rattle.bib_values.proofs.ranges.write_ranges.Goals as goal

pub returns : goal.returns
returns c = grind (arith, common_steps)

pub ranges-2-preserved : goal.ranges-2-preserved
ranges-2-preserved c = grind (arith, common_steps)
