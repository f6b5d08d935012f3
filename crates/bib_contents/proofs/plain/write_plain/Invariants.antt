use Rattle.std.proofs.Common.{length}
use Rattle.bib_contents.specs.Progress.{left, Renders}
use Rattle.bib_contents.proofs.plain.write_plain.Given as goal

-- the text parsed so far was written
abbrev pub invariant-runs : goal.invariant-runs
invariant-runs l = Renders l.is_verbatim l.initial.s l.s l.initial.text l.text

abbrev pub decreases-runs : goal.decreases-runs
decreases-runs l = length (left l.s)
