use Rattle.std.proofs.Common.{length}
use Rattle.bib_contents.specs.Progress.{left}
use Rattle.bib_contents.proofs.ReadingContents.{Reading}
use Rattle.bib_contents.proofs.contents.contents.Given as goal

-- the contents parsed so far, up to the cursor
abbrev pub invariant-units : goal.invariant-units
invariant-units l = Reading l.is_verbatim l.text l.offset l.initial.out l.s l.growing l.out

abbrev pub decreases-units : goal.decreases-units
decreases-units l = length (left l.s)
