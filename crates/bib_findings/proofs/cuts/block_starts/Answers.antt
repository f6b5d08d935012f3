use Rattle.std.proofs.Common.{arith}
use Rattle.std.proofs.lemmas.Grind.{common_steps}
use Rattle.bib_findings.proofs.cuts.block_starts.Goals as goal

pub skipped-preserved : goal.skipped-preserved
skipped-preserved c = λ start. grind (arith, common_steps, c.skipped.invariant start)
