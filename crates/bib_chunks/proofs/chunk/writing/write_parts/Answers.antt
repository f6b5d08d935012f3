use Rattle.bib_chunks.proofs.WrittenFacts.{written_part}
use Rattle.bib_chunks.proofs.chunk.writing.write_parts.Goals as goal

pub parts-preserved : goal.parts-preserved
parts-preserved c =
    written_part c.args.is_verbatim c.parts.is_open c.is_open_after-is_open.result c.args.chunks.now c.parts.chunk-index
    c.chunk-item.result _ _ _
    c.parts-test.true c.chunk-item.is c.in_ok-write_part.ensures c.is_open_after-is_open.ensures c.parts.invariant
