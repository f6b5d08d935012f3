use Rattle.std.proofs.Common.{arith}
use Rattle.std.proofs.lemmas.Grind.{common_steps}
use Rattle.bib_people.proofs.people.push_plain.Goals as goal

pub returns : goal.returns
returns c = grind (arith, common_steps)

pub returns-then-begins_capital : goal.returns-then-begins_capital
returns-then-begins_capital c = grind (arith, common_steps)
