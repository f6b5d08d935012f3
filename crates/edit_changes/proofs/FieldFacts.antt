-- The names of fields, and the numbers in them.
use Rattle.std.proofs.Common.{◌≡◌, ◌<◌, ◌+◌, ℕ, List, [], ◌∷◌, ◌++◌, append_assoc, drop, get_or, length, map, take, ap, ◌∙◌}
use Rattle.std.specs.List.{enumerate_from, flat_map}
use Rattle.std.specs.Str.{str_to_ascii_lowercase}
use Rattle.std.proofs.lemmas.List.{map-append}
use Rattle.bib_collections.specs.Sorted.{ByText}
use Rattle.bib_syntax.specs.Reading.{FieldReading}
use Rattle.bib_syntax.specs.Views.{field_of}
use Rattle.bib_syntax.specs.declared.raw.Pair.{Pair}
use Rattle.bib_text.proofs.ListFacts.{drop_is, mapped_more}
use Rattle.edit_versions.specs.Versions.{indices_of}
use Rattle.edit_changes.specs.Fields.{changes_of_fields, field_names, present_field, removed_field}
use Rattle.edit_changes.specs.declared.changes.Change.{Change}
use Rattle.edit_changes.specs.declared.changes.Place.{Place}

-- the name of a field in lowercase
abbrev pub lower_name : FieldReading → List ℕ
lower_name f = str_to_ascii_lowercase f.name.text

-- the names of fields in lowercase
abbrev pub lower_names : List Pair → List (List ℕ)
lower_names fields = map lower_name (map field_of fields)

-- the names from an index on are the name there and those after it
pub lower_names_from : (fields : List Pair) (index : ℕ) (f : Pair) → index < length fields → f ≡ get_or fields index f
    → lower_names (drop index fields) ≡ lower_name (field_of f) ∷ lower_names (drop (index + 1) fields)
lower_names_from fields index f within is = ap lower_names (drop_is fields index f within is)

-- the names up to an index and the one there
pub lower_names_more : (fields : List Pair) (index : ℕ) (f : Pair) → index < length fields → f ≡ get_or fields index f
    → lower_names (take (index + 1) fields) ≡ lower_names (take index fields) ++ lower_name (field_of f) ∷ []
lower_names_more fields index f within is =
    ap (map lower_name) (mapped_more field_of fields index f within is)
    ∙ map-append lower_name (map field_of (take index fields)) (field_of f ∷ [])

-- the changes of fields by these names and indices
abbrev pub changes_of_names : Place → List FieldReading → List FieldReading → List (List ℕ) → List (List ℕ) → ByText ℕ → ByText ℕ
    → List Change
changes_of_names place fields others names other_names indices other_indices =
    flat_map (removed_field place other_indices) (enumerate_from 0 names)
    ++ flat_map (present_field place fields others indices) (enumerate_from 0 other_names)

-- removed fields, and then those of the new version, are the changes of fields
pub both_pushed : (place : Place) (fields others : List FieldReading) (names other_names : List (List ℕ)) (indices other_indices : ByText ℕ)
    (old middle new : List Change) → names ≡ field_names fields → other_names ≡ field_names others
    → indices ≡ indices_of (field_names fields) → other_indices ≡ indices_of (field_names others)
    → middle ≡ old ++ flat_map (removed_field place other_indices) (enumerate_from 0 names)
    → new ≡ middle ++ flat_map (present_field place fields others indices) (enumerate_from 0 other_names)
    → new ≡ old ++ changes_of_fields place fields others
both_pushed place fields others names other_names indices other_indices old middle new named other_named indexed other_indexed removed
    present =
    present
    ∙ ap (λ m. m ++ flat_map (present_field place fields others indices) (enumerate_from 0 other_names)) removed
    ∙ append_assoc old (flat_map (removed_field place other_indices) (enumerate_from 0 names))
    (flat_map (present_field place fields others indices) (enumerate_from 0 other_names))
    ∙ ap (λ n. old ++ changes_of_names place fields others n other_names indices other_indices) named
    ∙ ap (λ n. old ++ changes_of_names place fields others (field_names fields) n indices other_indices) other_named
    ∙ ap (λ m. old ++ changes_of_names place fields others (field_names fields) (field_names others) m other_indices) indexed
    ∙ ap (λ m. old ++ changes_of_names place fields others (field_names fields) (field_names others) (indices_of (field_names fields)) m)
    other_indexed
