-- Meaning: words of public contracts.
-- Lost names. Each side of a merge may be right, and the merge use a name that nothing defines: ours removes a definition, and theirs adds
-- an entry that uses it. Where the other side of what is picked has the definition, the place becomes a conflict.
use Rattle.std.specs.Prelude.{◌&&◌, not, ℕ, Bool, List, [], ◌∷◌, ◌++◌, Option, Some, None, cond, is_some, map}
use Rattle.std.specs.List.{find, flat_map}
use Rattle.edit_units.specs.Units.{UnitReading}
use Rattle.edit_versions.specs.Versions.{version_unit}
use Rattle.edit_merge.specs.Picked.{Versions, slots}
use Rattle.edit_merge.specs.UnitNames.{dangles, defined_names}
use Rattle.edit_merge.specs.declared.picking.Choice.{Choice}
use Rattle.edit_merge.specs.declared.picking.Choice.TheVariants.{Ours, Theirs, Conflict}
use Rattle.edit_merge.specs.declared.slots.Slot.{Slot}

-- a unit, if it is there
abbrev pub unit_list : Option UnitReading → List UnitReading
unit_list None = []
unit_list (Some u) = u ∷ []

-- the units that the merge has at a place: the picked one, or both if they conflict
abbrev pub picked_units : Versions → Slot → Choice → List UnitReading
picked_units vs s Ours = unit_list (version_unit vs.ours s.ours)
picked_units vs s Theirs = unit_list (version_unit vs.theirs s.theirs)
picked_units vs s Conflict = unit_list (version_unit vs.ours s.ours) ++ unit_list (version_unit vs.theirs s.theirs)

-- the units that a merge has at these places
abbrev pub units_at : Versions → List Slot → List UnitReading
units_at vs ss = flat_map (λ s. picked_units vs s s.choice) ss

-- the unit at a place that isn't picked, if one is picked
abbrev pub unpicked_units : Versions → Slot → Choice → List UnitReading
unpicked_units vs s Ours = unit_list (version_unit vs.theirs s.theirs)
unpicked_units vs s Theirs = unit_list (version_unit vs.ours s.ours)
unpicked_units vs s Conflict = []

-- Whether a merge loses a name: it dangles in the picked units, and in no side of `originals`. These are the versions before entries were
-- merged by their fields. A name that dangles in a side isn't lost, as that of a month.
abbrev pub is_lost : Versions → Versions → List ℕ → Bool
is_lost vs originals name =
    dangles (units_at vs (slots vs)) name && (not (dangles originals.ours.units name) && not (dangles originals.theirs.units name))

-- the first lost name in the unit at a place that isn't picked: a name that this unit defines
abbrev pub lost_at : Versions → Versions → Slot → Option (List ℕ)
lost_at vs originals s = find (is_lost vs originals) (flat_map defined_names (unpicked_units vs s s.choice))

-- a choice, or a conflict if there is a lost name
abbrev pub kept_choice : Choice → Option (List ℕ) → Choice
kept_choice choice lost = cond (is_some lost) Conflict choice

-- a place, which is a conflict if the unit that isn't picked defines a lost name
abbrev pub kept_slot : Versions → Versions → Slot → Slot
kept_slot vs originals s = record s { choice = kept_choice s.choice (lost_at vs originals s) }

-- the places of a merge, with conflicts for lost names
abbrev pub kept_slots : Versions → Versions → List Slot
kept_slots vs originals = map (kept_slot vs originals) (slots vs)

-- the first lost name at each place, if there is one
abbrev pub names_lost : Versions → Versions → List (Option (List ℕ))
names_lost vs originals = map (lost_at vs originals) (slots vs)
