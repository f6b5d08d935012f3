-- Meaning: words of public contracts.
-- Versions that have the same content, but may differ in their layout.
use Rattle.std.specs.Prelude.{◌≡◌, ◌⊎◌, ◌<◌, ℕ, true, [], Some, length}
use Rattle.edit_changes.specs.Changes.{content_changes}
use Rattle.edit_changes.specs.declared.changes.Place.{Place}
use Rattle.edit_versions.specs.Alike.{is_same}
use Rattle.edit_versions.specs.Versions.{VersionReading, version_names, version_unit}

-- the place of the units at an index of both versions
abbrev pub same_place : ℕ → Place
same_place i = record { old = i; new = i }

-- the units at a place have the same bytes, or no content has changed
abbrev pub HaveSameUnits : VersionReading → VersionReading → Place → Type 0
HaveSameUnits v w place =
    (is_same v (version_unit v (Some place.old)) w (version_unit w (Some place.new)) ≡ true) ⊎ (content_changes place v w ≡ [])

-- both versions have the same names in the same order, and units with the same content
pub record HaveSameContent (v w : VersionReading) : Type 0 where
  pub names : version_names v ≡ version_names w
  pub units : (i : ℕ) → i < length (version_names v) → HaveSameUnits v w (same_place i)
