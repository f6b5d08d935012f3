use Rattle.std.proofs.Common.{◌≡◌, length, ◌-◌}
use Rattle.bib_syntax.proofs.raw.stretches.tail.Given as goal

abbrev pub invariant-braces : goal.invariant-braces
invariant-braces l = l.s.text ≡ l.fn.text

abbrev pub decreases-braces : goal.decreases-braces
decreases-braces l = length l.s.text - l.s.at
