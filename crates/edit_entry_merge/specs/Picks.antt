-- Meaning: words of public contracts.
-- What happens to each field of one side, the main one, whose text is edited. `takes` says for each name whether the other side counts.
use Rattle.std.specs.Prelude.{ℕ, Bool, true, false, not, ◌&&◌, cond, List, [], ◌∷◌, ◌++◌, filter, map, Option, Some, None}
use Rattle.std.specs.List.{flat_map}
use Rattle.bib_queries.specs.EqualValues.{are_equal_pieces}
use Rattle.bib_syntax.specs.Reading.{FieldReading}
use Rattle.edit_entry_merge.specs.Choices.{has_field_named}
use Rattle.edit_entry_merge.specs.Versions.{Version, named}

-- what happens to a field: it is kept, gets the value of another field, or is removed
pub data FieldPick : Type 0 where
  keep : FieldPick
  copy : FieldReading → FieldPick
  remove : FieldPick

-- the pick for a field, given the field of the other side, which counts; a field with an equal value is kept as it is
abbrev pub pick_instead : FieldReading → Option FieldReading → FieldPick
pick_instead f None = FieldPick.remove
pick_instead f (Some g) = cond (are_equal_pieces f.value.pieces g.value.pieces) FieldPick.keep (FieldPick.copy g)

-- the pick for a field of the main version
abbrev pub pick : (List ℕ → Bool) → Version → FieldReading → FieldPick
pick takes other f = cond (takes f.name.text) (pick_instead f (named f.name.text other)) FieldPick.keep

-- the picks for the fields of the main version
abbrev pub picks : (List ℕ → Bool) → Version → Version → List FieldPick
picks takes main other = map (pick takes other) main.entry.fields

-- whether a field stays
abbrev pub is_staying : FieldPick → Bool
is_staying FieldPick.keep = true
is_staying (FieldPick.copy g) = true
is_staying FieldPick.remove = false

-- whether a field of the other version is added: it counts, and the main version has none with its name
abbrev pub is_added : (List ℕ → Bool) → Version → FieldReading → Bool
is_added takes main g = takes g.name.text && not (has_field_named g.name.text main)

-- the fields that are added
abbrev pub additions : (List ℕ → Bool) → Version → Version → List FieldReading
additions takes main other = filter (is_added takes main) other.entry.fields

-- the fields that a field becomes
abbrev pub field_merged : FieldReading → FieldPick → List FieldReading
field_merged f FieldPick.keep = f ∷ []
field_merged f (FieldPick.copy g) = (record f { value = g.value }) ∷ []
field_merged f FieldPick.remove = []

-- The fields of the merged entry: those of the main version in their order, each with its own value or that of the other version, and then
-- the fields that are added
abbrev pub merged_fields : (List ℕ → Bool) → Version → Version → List FieldReading
merged_fields takes main other =
    flat_map (λ f. field_merged f (pick takes other f)) main.entry.fields ++ additions takes main other
