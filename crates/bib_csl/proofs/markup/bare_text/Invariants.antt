use Rattle.std.proofs.Common.{◌≡◌, take}
use Rattle.bib_csl.specs.Texts.{bare_text}
use Rattle.bib_csl.proofs.markup.bare_text.Given as goal

abbrev pub invariant-chunks : goal.invariant-chunks
invariant-chunks l = l.out ≡ bare_text (take l.chunk-index l.chunks)
