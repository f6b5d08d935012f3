use Rattle.std.proofs.Common.{arith}
use Rattle.std.proofs.lemmas.Grind.{common_steps}
use Rattle.bib_dates.proofs.write.DatetimeDisplay.fmt.Goals as goal

pub returns-clause-writes : goal.returns-clause-writes
returns-clause-writes c = grind (arith, common_steps)

pub returns-in_default-day-clause-writes : goal.returns-in_default-day-clause-writes
returns-in_default-day-clause-writes c = grind (arith, common_steps)
