-- Machinery: words of private contracts.
-- The versions of a merge after the renames, in the types of the code.
use Rattle.std.specs.Prelude.{◌≡◌, ℕ, List, Option, Some, None, ⊤}
use Rattle.bib_syntax.specs.Grammar.{IsFile}
use Rattle.edit_units.specs.Units.{AreUnits}
use Rattle.edit_versions.specs.Versions.{VersionReading}
use Rattle.bibkit_versions.specs.declared.renaming.NewVersion.{NewVersion}
use Rattle.bibkit_versions.specs.declared.renaming.NewVersion.TheVariants.{Old, New, Refused}

-- a value of the code is the version of a new text, if there is one
abbrev pub IsVersionOf : Option (List ℕ) → NewVersion → Type 0
IsVersionOf None Old = ⊤
IsVersionOf None (New v) = ⊥
IsVersionOf None Refused = ⊥
IsVersionOf (Some text) Old = ⊥
IsVersionOf (Some text) (New v) = (v.text ≡ text) × AreUnits v.text v.units
IsVersionOf (Some text) Refused = IsFile text → ⊥

-- the new version, or the old one if it stays; none if the new text is refused
abbrev pub version_or : NewVersion → VersionReading → Option VersionReading
version_or Old old = Some old
version_or (New v) old = Some v
version_or Refused old = None
