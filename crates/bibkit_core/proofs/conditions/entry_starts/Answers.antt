use Rattle.std.proofs.Common.{arith}
use Rattle.std.proofs.lemmas.Grind.{common_steps}
use Rattle.bibkit_core.proofs.conditions.entry_starts.Goals as goal

pub entries-preserved : goal.entries-preserved
entries-preserved c = λ start. grind (arith, common_steps, c.entries.invariant start)
