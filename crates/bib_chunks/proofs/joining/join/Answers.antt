use Rattle.std.proofs.Common.{arith}
use Rattle.std.proofs.lemmas.Grind.{common_steps}
use Rattle.bib_chunks.proofs.joining.join.Goals as goal

pub returns-in_ok-longer-in-Normal-Normal : goal.returns-in_ok-longer-in-Normal-Normal
returns-in_ok-longer-in-Normal-Normal c = grind (arith, common_steps)

pub returns-in_ok-longer-in-Verbatim-Verbatim : goal.returns-in_ok-longer-in-Verbatim-Verbatim
returns-in_ok-longer-in-Verbatim-Verbatim c = grind (arith, common_steps)
