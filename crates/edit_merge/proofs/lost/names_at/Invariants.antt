use Rattle.std.proofs.Common.{take}
use Rattle.edit_merge.specs.Lost.{units_at}
use Rattle.edit_merge.specs.NameSets.{HaveNames}
use Rattle.edit_merge.specs.Views.{versions_of}
use Rattle.edit_merge.proofs.lost.names_at.Given as goal

-- the sets have the names of the units at the places so far
abbrev pub invariant-slots : goal.invariant-slots
invariant-slots l = HaveNames (units_at (versions_of l.versions) (take l.slot-index l.slots)) l.sets
