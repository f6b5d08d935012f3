use Rattle.std.proofs.Common.{arith}
use Rattle.std.proofs.lemmas.Grind.{common_steps}
use Rattle.bib_recode.proofs.decoding.decode_utf16.Goals as goal

pub returns-clause-decoded : goal.returns-clause-decoded
returns-clause-decoded c = grind (arith, common_steps)

pub returns-in-Some-clause-refused : goal.returns-in-Some-clause-refused
returns-in-Some-clause-refused c = grind (arith, common_steps)

pub returns-then-rest-eq1-clause-refused : goal.returns-then-rest-eq1-clause-refused
returns-then-rest-eq1-clause-refused c = grind (arith, common_steps)
