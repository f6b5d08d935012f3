use Rattle.std.proofs.Common.{arith}
use Rattle.std.proofs.lemmas.Grind.{common_steps}
use Rattle.bib_chunks.proofs.chunk.cuts.trimmed_ends.Goals as goal

pub returns : goal.returns
returns c = grind (arith, common_steps)

pub chunks-preserved : goal.chunks-preserved
chunks-preserved c = grind (arith, common_steps)
