use Rattle.std.proofs.Common.{◌≡◌, drop}
use Rattle.bib_chunks.specs.Cuts.{cut_at, cut_after}
use Rattle.bib_chunks.proofs.chunk.cuts.cut_at.Given as goal

-- the cut of all chunks is that of the chunks left, after the chunks before them
abbrev pub invariant-chunks : goal.invariant-chunks
invariant-chunks l = cut_after l.before (cut_at (drop l.i l.chunks) l.separator) ≡ cut_at l.chunks l.separator
