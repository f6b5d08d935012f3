use Rattle.std.proofs.Common.{◌≡◌, ◌++◌, take}
use Rattle.bib_chunks.specs.Styled.{styled}
use Rattle.bib_chunks.specs.Joined.{AreJoined}
use Rattle.bib_chunks.proofs.joining.append_copies.Given as goal

abbrev pub invariant-copies : goal.invariant-copies
invariant-copies l = (styled l.out ≡ styled l.fn.out ++ styled (take l.chunk-index l.chunks)) × (AreJoined l.fn.out → AreJoined l.out)
