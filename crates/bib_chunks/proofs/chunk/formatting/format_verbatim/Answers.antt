use Rattle.std.proofs.Common.{arith}
use Rattle.std.proofs.lemmas.Grind.{common_steps}
use Rattle.bib_chunks.proofs.FormattedFacts.{formatted_part}
use Rattle.bib_chunks.proofs.chunk.formatting.format_verbatim.Goals as goal

pub chunks-preserved : goal.chunks-preserved
chunks-preserved c =
    formatted_part c.chunks.space c.in_ok-space.space c.args.chunks.now c.chunks.chunk-index c.chunk-item.result _ _ _
    c.chunks-test.true c.chunk-item.is c.in_ok-space.ensures.written c.in_ok-space.ensures.following c.chunks.invariant

pub returns : goal.returns
returns c = grind (arith, common_steps)
