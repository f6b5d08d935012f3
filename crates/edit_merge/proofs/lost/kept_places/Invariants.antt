use Rattle.std.proofs.Common.{◌≡◌, map, take}
use Rattle.std.specs.Prelude.{option_map}
use Rattle.std.specs.String.{string_bytes}
use Rattle.edit_merge.specs.NameSets.{kept_by, lost_by}
use Rattle.edit_merge.specs.Views.{versions_of}
use Rattle.edit_merge.proofs.lost.kept_places.Given as goal

-- the places so far, and their lost names
abbrev pub invariant-slots : goal.invariant-slots
invariant-slots l = record {
  slots : l.kept.items ≡ map (kept_by l.names (versions_of l.versions)) (take l.slot-index l.slots);
  lost : map (option_map string_bytes) l.lost.items
      ≡ map (lost_by l.names (versions_of l.versions)) (take l.slot-index l.slots);
}
