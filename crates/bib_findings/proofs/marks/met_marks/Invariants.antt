use Rattle.std.proofs.Common.{take}
use Rattle.std.specs.List.{flat_map}
use Rattle.bib_findings.specs.Marks.{AreMetMarks, listed}
use Rattle.bib_findings.proofs.marks.met_marks.Given as goal

-- the map contains the marks of the first entries
abbrev pub invariant-marks : goal.invariant-marks
invariant-marks l = AreMetMarks l.met (flat_map listed (take l.one-index l.all))
