-- Meaning: words of public contracts.
-- The changes of fields, and of definitions of abbreviations. A field is compared with the field that has its name, in any ASCII case. Of
-- several fields with one name, the first is compared with the first, the second with the second, and so on.
use Rattle.std.specs.Prelude.{ℕ, Bool, true, false, List, [], ◌∷◌, ◌++◌, Option, Some, None, cond, is_some, map, slice_get}
use Rattle.std.specs.FinMap.{get}
use Rattle.std.specs.List.{enumerate_from, flat_map}
use Rattle.std.specs.Str.{str_to_ascii_lowercase}
use Rattle.bib_collections.specs.Sorted.{ByText}
use Rattle.bib_syntax.specs.Reading.{FieldReading}
use Rattle.bib_queries.specs.EqualValues.{are_equal_pieces}
use Rattle.edit_versions.specs.Versions.{indices_of, unique_names}
use Rattle.edit_changes.specs.declared.changes.Change.{Change}
use Rattle.edit_changes.specs.declared.changes.Change.TheVariants.{FieldAdded, FieldRemoved, FieldSet}
use Rattle.edit_changes.specs.declared.changes.Place.{Place}

-- the names by which fields are compared, all different: the number of earlier fields with the name, and the name in ASCII lowercase
abbrev pub field_names : List FieldReading → List (List ℕ)
field_names fields = unique_names [] (map (λ f. str_to_ascii_lowercase f.name.text) fields)

-- whether two fields have equal values, or both are absent
abbrev pub are_equal_values : Option FieldReading → Option FieldReading → Bool
are_equal_values None None = true
are_equal_values None (Some g) = false
are_equal_values (Some f) None = false
are_equal_values (Some f) (Some g) = are_equal_pieces f.value.pieces g.value.pieces

-- the change at a field of the old version, given its index and name, and the indices by name in the new version: it is removed if no field
-- there has the name
abbrev pub removed_field : Place → ByText ℕ → ℕ × List ℕ → List Change
removed_field place others x = cond (is_some (get others x.1)) [] (FieldRemoved place x.0 ∷ [])

-- the change from the field at an index of the old version, if there is one, to that at an index of the new version
abbrev pub present_field_change : Place → List FieldReading → List FieldReading → ℕ → Option ℕ → List Change
present_field_change place fields others new None = FieldAdded place new ∷ []
present_field_change place fields others new (Some old) =
    cond (are_equal_values (slice_get fields old) (slice_get others new)) [] (FieldSet place old new ∷ [])

-- the change at a field of the new version, given its index and name, and the indices by name in the old version: from the field there that
-- has the name
abbrev pub present_field : Place → List FieldReading → List FieldReading → ByText ℕ → ℕ × List ℕ → List Change
present_field place fields others indices x = present_field_change place fields others x.0 (get indices x.1)

-- the changes from fields of the old version to fields of the new one: those that are removed, and those of the new version
abbrev pub changes_of_fields : Place → List FieldReading → List FieldReading → List Change
changes_of_fields place fields others =
    flat_map (removed_field place (indices_of (field_names others))) (enumerate_from 0 (field_names fields))
    ++ flat_map (present_field place fields others (indices_of (field_names fields))) (enumerate_from 0 (field_names others))
