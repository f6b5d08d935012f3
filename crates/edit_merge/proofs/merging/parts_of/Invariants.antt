use Rattle.std.proofs.Common.{◌≡◌, ◌++◌, drop, map}
use Rattle.std.specs.List.{flat_map}
use Rattle.edit_merge.specs.Merged.{slot_parts}
use Rattle.edit_merge.specs.PartViews.{part_view}
use Rattle.edit_entry_merge.specs.ConflictTexts.{marker_lines}
use Rattle.edit_merge.specs.Views.{versions_of}
use Rattle.edit_merge.proofs.merging.parts_of.Given as goal

-- the parts so far, and those of the slots that are left, are the parts of all slots
abbrev pub invariant-slots : goal.invariant-slots
invariant-slots l =
    map part_view l.parts.items ++ flat_map (slot_parts (marker_lines l.markers) (versions_of l.versions)) (drop l.slot-index l.slots)
    ≡ flat_map (slot_parts (marker_lines l.markers) (versions_of l.versions)) l.slots
