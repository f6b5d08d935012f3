use Rattle.std.proofs.Common.{drop}
use Rattle.std.specs.Prelude.{◌↔◌}
use Rattle.bib_chunks.specs.Styled.{styled}
use Rattle.bib_chunks.specs.Settled.{IsSettled}
use Rattle.bib_chunks.specs.Settling.{AreSettledAfter}
use Rattle.bib_chunks.proofs.settling.is_settled.Given as goal

-- the chunks are settled exactly if the rest of them is settled after the last atom
abbrev pub invariant-chunks : goal.invariant-chunks
invariant-chunks l =
    IsSettled (styled l.chunks) l.is_verbatim ↔ AreSettledAfter l.is_verbatim l.before
    (styled (drop l.chunk-index l.chunks))
