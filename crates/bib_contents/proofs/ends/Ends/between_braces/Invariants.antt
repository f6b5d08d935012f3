use Rattle.std.proofs.Common.{length}
use Rattle.bib_contents.specs.Progress.{left}
use Rattle.bib_contents.proofs.EndFacts.{AreReadTo}
use Rattle.bib_contents.proofs.ends.Ends.between_braces.Given as goal

abbrev pub invariant-braces : goal.invariant-braces
invariant-braces l = AreReadTo l.initial.s.text l.start l.s l.places.items l.open.items

abbrev pub decreases-braces : goal.decreases-braces
decreases-braces l = length (left l.s)
