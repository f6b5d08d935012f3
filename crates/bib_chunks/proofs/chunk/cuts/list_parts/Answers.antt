use Rattle.bib_chunks.specs.Cutting.{between_cuts, width}
use Rattle.bib_chunks.proofs.CutFacts.{onto_parts}
use Rattle.bib_chunks.proofs.chunk.cuts.list_parts.Goals as goal

pub chunks-init : goal.chunks-init
chunks-init c = rw c.new-parts.ensures (onto_parts (width c.args.separator) (between_cuts c.args.separator) c.args.chunks.now)
