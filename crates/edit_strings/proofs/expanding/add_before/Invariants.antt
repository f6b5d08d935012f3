use Rattle.std.proofs.Common.{◌-◌, ◌≤◌, length, map}
use Rattle.bib_syntax.specs.Views.{field_of}
use Rattle.edit_strings.specs.Tables.{AreIndices, BeginBefore}
use Rattle.edit_strings.proofs.expanding.add_before.Given as goal

abbrev pub invariant-definitions : goal.invariant-definitions
invariant-definitions l = record {
  from : l.from ≤ l.next;
  within : l.next ≤ length l.definitions;
  indices : AreIndices l.indices (map field_of l.definitions) l.next;
  before : BeginBefore (map field_of l.definitions) l.start l.from l.next;
}

abbrev pub decreases-definitions : goal.decreases-definitions
decreases-definitions l = length l.definitions - l.next
