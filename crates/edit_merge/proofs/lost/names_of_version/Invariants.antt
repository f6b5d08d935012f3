use Rattle.std.proofs.Common.{map, take}
use Rattle.edit_units.specs.Views.{unit_reading_of}
use Rattle.edit_merge.specs.NameSets.{HaveNames}
use Rattle.edit_merge.proofs.lost.names_of_version.Given as goal

-- the sets have the names of the units so far
abbrev pub invariant-units : goal.invariant-units
invariant-units l = HaveNames (map unit_reading_of (take l.unit-index l.unit-items)) l.sets
