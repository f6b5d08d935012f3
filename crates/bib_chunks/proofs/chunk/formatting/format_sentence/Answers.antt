use Rattle.bib_chunks.proofs.FormattedFacts.{sentence_part}
use Rattle.bib_chunks.proofs.chunk.formatting.format_sentence.Goals as goal

pub chunks-preserved : goal.chunks-preserved
chunks-preserved c =
    sentence_part c.chunks.begins c.chunks.space c.in_ok-space.space c.args.chunks.now c.chunks.chunk-index c.chunk-item.result _ _ _
    c.chunks-test.true c.chunk-item.is c.in_ok-space.ensures.written c.in_ok-space.ensures.following c.chunks.invariant
