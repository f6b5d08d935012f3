use Rattle.std.proofs.Common.{◌≡◌, length, take}
use Rattle.bibkit_core.specs.Marks.{either_mark}
use Rattle.bibkit_core.proofs.cited.either.Given as goal

abbrev pub invariant-marks : goal.invariant-marks
invariant-marks l = l.marks.items ≡ either_mark (take (length l.yielded) l.first) (take (length l.yielded) l.second)
