use Rattle.std.proofs.Common.{List, ℕ, length, ◌-◌}
use Rattle.bib_syntax.specs.OpenBraces.{AreBracesAt}
use Rattle.bib_syntax.proofs.raw.closings.Braces.pass_all.Given as goal

abbrev pub invariant-text : goal.invariant-text
invariant-text l =
    (text : List ℕ) → AreBracesAt text l.fn.self.opened.items l.fn.self.found.items l.fn.s
    → AreBracesAt text l.self.opened.items l.self.found.items l.s

abbrev pub decreases-text : goal.decreases-text
decreases-text l = length l.s.text - l.s.at
