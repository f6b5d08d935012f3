use Rattle.std.proofs.Common.{arith}
use Rattle.std.proofs.lemmas.Grind.{common_steps}
use Rattle.bib_syntax.proofs.raw.file.add.Goals as goal

pub returns-in_ok-push-in-Entry : goal.returns-in_ok-push-in-Entry
returns-in_ok-push-in-Entry c = grind (arith, common_steps)

pub returns-in_ok-append-in-Strings : goal.returns-in_ok-append-in-Strings
returns-in_ok-append-in-Strings c = grind (arith, common_steps)
