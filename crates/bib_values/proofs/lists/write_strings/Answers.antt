use Rattle.std.proofs.Common.{arith}
use Rattle.std.proofs.lemmas.Grind.{common_steps}
use Rattle.bib_values.proofs.lists.write_strings.Goals as goal

pub returns : goal.returns
returns c = grind (arith, common_steps)

pub texts-preserved : goal.texts-preserved
texts-preserved c = grind (arith, common_steps)
