-- Meaning: words of public contracts.
-- Merges without a conflict, and their content.
use Rattle.std.specs.Prelude.{List, [], ◌∷◌, Option, Some, None, ⊤}
use Rattle.std.specs.List.{AllByRecursion, flat_map}
use Rattle.bib_syntax.specs.Reading.{FileReading, empty_reading, then}
use Rattle.edit_merge.specs.Picked.{Versions}
use Rattle.edit_merge.specs.declared.picking.Choice.{Choice}
use Rattle.edit_merge.specs.declared.picking.Choice.TheVariants.{Ours, Theirs, Conflict}
use Rattle.edit_merge.specs.declared.slots.Slot.{Slot}
use Rattle.edit_units.specs.Units.{AreUnits, UnitReading}
use Rattle.edit_versions.specs.Versions.{version_unit}

-- each version has the units of its text
pub record HaveUnits (vs : Versions) : Type 0 where
  pub base : AreUnits vs.base.text vs.base.units
  pub ours : AreUnits vs.ours.text vs.ours.units
  pub theirs : AreUnits vs.theirs.text vs.theirs.units

-- a choice is no conflict
abbrev pub IsPicked : Choice → Type 0
IsPicked Ours = ⊤
IsPicked Theirs = ⊤
IsPicked Conflict = ⊥

-- a merge with these places has no conflict
abbrev pub IsClean : List Slot → Type 0
IsClean ss = AllByRecursion (λ s. IsPicked s.choice) ss

-- the content of a unit, if it is there
abbrev pub unit_content : Option UnitReading → List FileReading
unit_content None = []
unit_content (Some u) = u.says ∷ []

-- the content of what is picked at a place
abbrev pub picked_content : Versions → Slot → Choice → List FileReading
picked_content vs s Ours = unit_content (version_unit vs.ours s.ours)
picked_content vs s Theirs = unit_content (version_unit vs.theirs s.theirs)
picked_content vs s Conflict = []

-- contents one after another
abbrev pub contents_together : List FileReading → FileReading
contents_together [] = empty_reading
contents_together (says ∷ rest) = then says (contents_together rest)

-- the content of a merge with these places, without a conflict: that of the picked units, in order
abbrev pub merged_content : Versions → List Slot → FileReading
merged_content vs ss = contents_together (flat_map (λ s. picked_content vs s s.choice) ss)
