-- Meaning: words of public contracts.
-- The parts of a change that are printed: the name of a field, and the old and the new text.
use Rattle.std.specs.Prelude.{ℕ, List, [], ◌∷◌, ◌++◌, Option, Some, None, codes, slice_get}
use Rattle.bib_syntax.specs.Reading.{EntryReading, FieldReading}
use Rattle.edit_changes.specs.Blocks.{unit_fields}
use Rattle.edit_changes.specs.declared.changes.Change.{Change}
use Rattle.edit_changes.specs.declared.changes.Change.TheVariants.{Added, CommentsSet, FieldAdded, FieldRemoved, FieldSet, LayoutSet, Removed, Renamed, Reordered, TextSet, TypeSet}
use Rattle.edit_units.specs.Units.{UnitReading}
use Rattle.edit_versions.specs.Versions.{VersionReading, version_unit}
use Rattle.bibkit_versions.specs.Labels.{unit_name_at, value_in_braces}

-- the name of the changed field, and the old and the new text, as far as a change has them
pub record FactsReading : Type 0 where
  pub field : Option (List ℕ)
  pub old : Option (List ℕ)
  pub new : Option (List ℕ)

-- the type of the first of these entries after an at sign, or an empty text if there is none
abbrev pub type_by : List EntryReading → List ℕ
type_by [] = []
type_by (e ∷ es) = codes "@" ++ e.kind.text

-- the type of the first entry of a unit, after an at sign
abbrev pub unit_type : Option UnitReading → List ℕ
unit_type None = []
unit_type (Some u) = type_by u.says.entries

abbrev pub entry_type_at : VersionReading → ℕ → List ℕ
entry_type_at v i = unit_type (version_unit v (Some i))

-- the field at an index of a unit, if there is one
abbrev pub unit_field : Option UnitReading → ℕ → Option FieldReading
unit_field None k = None
unit_field (Some u) k = slice_get (unit_fields u) k

abbrev pub field_at : VersionReading → ℕ → ℕ → Option FieldReading
field_at v i k = unit_field (version_unit v (Some i)) k

-- the name of a field, or an empty text if there is none
abbrev pub name_of_field : Option FieldReading → List ℕ
name_of_field None = []
name_of_field (Some f) = f.name.text

-- the value of a field as text, or an empty text if there is none
abbrev pub field_value : Option FieldReading → List ℕ
field_value None = []
field_value (Some f) = value_in_braces f.value.pieces

-- no parts
abbrev pub no_facts : FactsReading
no_facts = record { field = None; old = None; new = None }

-- the parts of a change of the unit at a place
abbrev pub facts_of : VersionReading → VersionReading → Change → FactsReading
facts_of v w (Removed old) = no_facts
facts_of v w (Added new) = no_facts
facts_of v w (Renamed place) = record { field = None; old = Some (unit_name_at v place.old); new = Some (unit_name_at w place.new) }
facts_of v w (TypeSet place) = record { field = None; old = Some (entry_type_at v place.old); new = Some (entry_type_at w place.new) }
facts_of v w (FieldRemoved place old) = record {
  field = Some (name_of_field (field_at v place.old old));
  old = Some (field_value (field_at v place.old old));
  new = None;
}
facts_of v w (FieldAdded place new) = record {
  field = Some (name_of_field (field_at w place.new new));
  old = None;
  new = Some (field_value (field_at w place.new new));
}
facts_of v w (FieldSet place old new) = record {
  field = Some (name_of_field (field_at w place.new new));
  old = Some (field_value (field_at v place.old old));
  new = Some (field_value (field_at w place.new new));
}
facts_of v w (CommentsSet place) = no_facts
facts_of v w (TextSet place) = no_facts
facts_of v w (LayoutSet place) = no_facts
facts_of v w Reordered = no_facts
