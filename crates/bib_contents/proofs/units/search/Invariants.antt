use Rattle.std.proofs.Common.{length, ◌≤◌}
use Rattle.bib_contents.specs.Progress.{left}
use Rattle.bib_contents.proofs.ArgumentFacts.{BracedRead}
use Rattle.bib_contents.proofs.units.search.Given as goal

abbrev pub invariant-braces : goal.invariant-braces
invariant-braces l = BracedRead l.fn.s l.depth l.s × (l.depth ≤ l.s.at)

abbrev pub decreases-braces : goal.decreases-braces
decreases-braces l = length (left l.s)
