use Rattle.std.proofs.Common.{take}
use Rattle.edit_resolve.specs.Working.{Offered, fields_at, offered_at}
use Rattle.edit_resolve.proofs.gathering.push_parents.Given as goal

abbrev pub invariant-parents : goal.invariant-parents
invariant-parents l =
    Offered l.initial.gathered (offered_at l.types l.child (fields_at l.found) (take l.parent-index l.parents)) l.gathered
