use Rattle.std.proofs.Common.{◌≡◌, ◌++◌, drop, map, take}
use Rattle.std.specs.List.{AllByRecursion}
use Rattle.edit_units.specs.Views.{unit_reading_of}
use Rattle.edit_versions.specs.Blocks.{IsUnitCut}
use Rattle.edit_versions.specs.Versions.{unique_names, unit_names}
use Rattle.edit_versions.proofs.NameFacts.{AreCounts, own_names}
use Rattle.edit_versions.proofs.names.unit_names.Given as goal

-- `names` has the names of the units so far, and `counts` has the numbers of their own names
abbrev pub invariant-units : goal.invariant-units
invariant-units l = record {
  cut : AllByRecursion (IsUnitCut l.text) (map unit_reading_of (drop l.unit-index l.units));
  counted : AreCounts (own_names l.text (take l.unit-index l.units)) l.counts;
  named : l.names.items ++ unique_names (own_names l.text (take l.unit-index l.units)) (own_names l.text (drop l.unit-index l.units))
      ≡ unit_names l.text (map unit_reading_of l.units);
}
