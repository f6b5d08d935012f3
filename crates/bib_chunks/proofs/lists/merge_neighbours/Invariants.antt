use Rattle.std.proofs.Common.{◌≡◌, take}
use Rattle.bib_chunks.specs.Styled.{styled}
use Rattle.bib_chunks.specs.Lists.{chunks_of}
use Rattle.bib_chunks.proofs.lists.merge_neighbours.Given as goal

-- the output is the chunks of the styled text so far
abbrev pub invariant-chunks : goal.invariant-chunks
invariant-chunks l = l.all ≡ chunks_of (styled (take l.chunk-index l.chunks))
