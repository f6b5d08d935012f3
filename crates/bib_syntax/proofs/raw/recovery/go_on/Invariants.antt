use Rattle.std.proofs.Common.{length, ◌-◌}
use Rattle.bib_syntax.specs.Recovery.{Passed}
use Rattle.bib_syntax.proofs.raw.recovery.go_on.Given as goal

abbrev pub invariant-search : goal.invariant-search
invariant-search l = Passed l.fn.s l.s

abbrev pub decreases-search : goal.decreases-search
decreases-search l = length l.s.text - l.s.at
