use Rattle.std.proofs.Common.{arith}
use Rattle.std.proofs.lemmas.Grind.{common_steps}
use Rattle.bib_values.proofs.roman.push_digit.Goals as goal

pub returns : goal.returns
returns c = grind (arith, common_steps)

pub returns-then-digit-eq4 : goal.returns-then-digit-eq4
returns-then-digit-eq4 c = grind (arith, common_steps)

pub returns-then-digit-eq9 : goal.returns-then-digit-eq9
returns-then-digit-eq9 c = grind (arith, common_steps)
