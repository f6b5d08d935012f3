use Rattle.std.proofs.Common.{arith}
use Rattle.std.proofs.lemmas.Grind.{common_steps}
use Rattle.bib_values.proofs.lists.read_strings.Goals as goal

pub parts-preserved : goal.parts-preserved
parts-preserved c = grind (arith, common_steps)
