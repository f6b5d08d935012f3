use Rattle.std.proofs.Common.{◌≤◌}
use Rattle.edit_strings.specs.Collecting.{AreUsedBelow}
use Rattle.edit_strings.proofs.naming.fresh.Given as goal

abbrev pub invariant-numbers : goal.invariant-numbers
invariant-numbers l = record {
  some : 1 ≤ l.number;
  used : AreUsedBelow l.taken l.base l.number;
}
