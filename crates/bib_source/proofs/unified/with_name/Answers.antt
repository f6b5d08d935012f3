use Rattle.std.proofs.Common.{arith}
use Rattle.std.proofs.lemmas.Grind.{common_steps}
use Rattle.bib_source.proofs.unified.with_name.Goals as goal

pub returns : goal.returns
returns c = grind (arith, common_steps)

pub hunks-preserved : goal.hunks-preserved
hunks-preserved c = grind (arith, common_steps)
