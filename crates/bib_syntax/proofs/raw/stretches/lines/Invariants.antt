use Rattle.std.proofs.Common.{◌≡◌, length, ◌-◌}
use Rattle.bib_syntax.specs.Stretches.{AreLines}
use Rattle.bib_syntax.proofs.raw.stretches.lines.Given as goal

abbrev pub invariant-lines : goal.invariant-lines
invariant-lines l = (l.s.text ≡ l.fn.text) × AreLines l.fn.text l.found.items

abbrev pub decreases-lines : goal.decreases-lines
decreases-lines l = length l.s.text - l.s.at
