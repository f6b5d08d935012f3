use Rattle.std.proofs.Common.{◌≡◌, ◌++◌, take}
use Rattle.bib_chunks.proofs.chunk.cuts.append.Given as goal

abbrev pub invariant-chunks : goal.invariant-chunks
invariant-chunks l = l.all ≡ l.initial.all ++ take l.chunk-index l.chunks
