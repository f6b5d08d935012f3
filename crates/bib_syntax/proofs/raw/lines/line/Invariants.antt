use Rattle.std.proofs.Common.{◌≡◌, length, ◌-◌}
use Rattle.bib_syntax.specs.Lines.{InLine}
use Rattle.bib_syntax.specs.LineViews.{line_of}
use Rattle.bib_syntax.proofs.raw.lines.line.Given as goal

-- the line so far
abbrev pub invariant-parts : goal.invariant-parts
invariant-parts l =
    InLine l.fn.s (line_of l.line).blocks (line_of l.line).says l.s × (l.line.span.start ≡ l.fn.s.at)

abbrev pub decreases-parts : goal.decreases-parts
decreases-parts l = length l.s.text - l.s.at
