use Rattle.std.proofs.Common.{length, map, ◌-◌}
use Rattle.bib_syntax.specs.LineViews.{line_of}
use Rattle.bib_syntax.proofs.LineReadFacts.{LinesBefore}
use Rattle.bib_syntax.proofs.raw.lines.lines_from.Given as goal

-- the lines so far, each with its line feed
abbrev pub invariant-lines : goal.invariant-lines
invariant-lines l = LinesBefore l.fn.s (map line_of l.lines.items) l.s

abbrev pub decreases-lines : goal.decreases-lines
decreases-lines l = length l.s.text - l.s.at
