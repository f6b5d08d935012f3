use Rattle.std.proofs.Common.{◌≡◌, drop}
use Rattle.bib_chunks.specs.Cuts.{list_parts}
use Rattle.bib_chunks.specs.Cutting.{all_parts, between_cuts, width}
use Rattle.bib_chunks.proofs.chunk.cuts.list_parts.Given as goal

-- the parts so far with those of the rest are the parts of the whole list
abbrev pub invariant-chunks : goal.invariant-chunks
invariant-chunks l =
    all_parts l.parts (list_parts (width l.separator) (between_cuts l.separator) (drop l.chunk-index l.chunks))
    ≡ list_parts (width l.separator) (between_cuts l.separator) l.chunks
