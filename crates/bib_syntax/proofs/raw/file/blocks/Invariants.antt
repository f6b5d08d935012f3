use Rattle.std.proofs.Common.{length, ◌-◌}
use Rattle.bib_text.proofs.PlaceFacts.{Ahead}
use Rattle.bib_syntax.specs.Views.{file_of}
use Rattle.bib_syntax.proofs.FileFacts.{FileRead}
use Rattle.bib_syntax.proofs.raw.file.blocks.Given as goal

abbrev pub invariant-file : goal.invariant-file
invariant-file l = Ahead l.fn.s l.s × FileRead l.fn.s (file_of l.raw) l.s

abbrev pub decreases-file : goal.decreases-file
decreases-file l = length l.s.text - l.s.at
