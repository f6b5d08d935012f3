use Rattle.std.proofs.Common.{◌≡◌, ◌++◌, drop}
use Rattle.bib_chunks.specs.Cuts.{trimmed_chunks, trimmed_ends}
use Rattle.bib_chunks.proofs.chunk.cuts.trimmed_ends.Given as goal

-- the output and the trimmed rest of the chunks are together the trimmed chunks
abbrev pub invariant-chunks : goal.invariant-chunks
invariant-chunks l = l.all ++ trimmed_chunks l.first (drop l.i l.chunks) ≡ trimmed_ends l.chunks
