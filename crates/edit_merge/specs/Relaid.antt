-- Meaning: words of public contracts.
-- Versions that differ in layout only, and what their merges pick.
use Rattle.std.specs.Prelude.{◌≡◌, ℕ, Bool, true, false, List}
use Rattle.edit_versions.specs.Versions.{VersionReading, own_part}
use Rattle.edit_merge.specs.Clean.{HaveUnits}
use Rattle.edit_merge.specs.Picked.{Versions, is_alike_named, is_repeated_in, slot_of}
use Rattle.edit_merge.specs.declared.picking.Choice.{Choice}
use Rattle.edit_merge.specs.declared.picking.Choice.TheVariants.{Ours, Theirs, Conflict}

-- In two triples of versions, the bases, ours and theirs have alike units with a name, or none. No version has several units with the own
-- name that is a part of this name.
pub record AreRelaid (vs ws : Versions) (name : List ℕ) : Type 0 where
  pub units : HaveUnits vs
  pub units' : HaveUnits ws
  pub base : is_alike_named vs.base ws.base name ≡ true
  pub ours : is_alike_named vs.ours ws.ours name ≡ true
  pub theirs : is_alike_named vs.theirs ws.theirs name ≡ true
  pub single : is_repeated_in vs (own_part name) ≡ false
  pub single' : is_repeated_in ws (own_part name) ≡ false

-- the version from which a choice picks; ours if it is a conflict
abbrev pub picked_version : Versions → Choice → VersionReading
picked_version vs Ours = vs.ours
picked_version vs Theirs = vs.theirs
picked_version vs Conflict = vs.ours

-- whether two merges pick alike units for a name, or none
abbrev pub pick_alike : Versions → Versions → List ℕ → Bool
pick_alike vs ws name = is_alike_named (picked_version vs (slot_of vs name).choice) (picked_version ws (slot_of ws name).choice) name
