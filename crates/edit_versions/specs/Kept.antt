-- Machinery: words of private contracts.
-- What a version keeps beside its text and its units.
use Rattle.std.specs.Prelude.{◌≡◌, ℕ, List}
use Rattle.bib_collections.specs.Sorted.{ByText}
use Rattle.edit_versions.specs.Versions.{VersionReading, end_of, indices_of, version_names, version_texts}
use Rattle.edit_units.specs.Units.{AreUnits, UnitTexts}

-- the texts of the units, the white space after the last one, the names of the units, and their indices by name
pub record ArePartsOfVersion (v : VersionReading) (texts : List UnitTexts) (end : List ℕ) (names : List (List ℕ))
    (indices : ByText ℕ) : Type 0 where
  pub units : AreUnits v.text v.units
  pub texts_are : texts ≡ version_texts v
  pub end_is : end ≡ end_of v
  pub names_are : names ≡ version_names v
  pub indices_are : indices ≡ indices_of names
