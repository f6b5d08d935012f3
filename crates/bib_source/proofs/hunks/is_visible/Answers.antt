use Rattle.std.proofs.Common.{arith}
use Rattle.std.proofs.lemmas.Grind.{common_steps}
use Rattle.bib_source.proofs.hunks.is_visible.Goals as goal

pub returns : goal.returns
returns c = grind (arith, common_steps)

pub returns-then-is_changed : goal.returns-then-is_changed
returns-then-is_changed c = grind (arith, common_steps)
