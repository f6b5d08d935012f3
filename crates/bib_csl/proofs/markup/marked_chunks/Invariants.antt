use Rattle.std.proofs.Common.{◌≡◌, take}
use Rattle.bib_csl.specs.Texts.{marked_chunks}
use Rattle.bib_csl.proofs.markup.marked_chunks.Given as goal

abbrev pub invariant-chunks : goal.invariant-chunks
invariant-chunks l = l.out ≡ marked_chunks l.is_title (take l.chunk-index l.chunks)
