-- Meaning: words of public contracts.
-- The text of the main version with values and fields of the other one.
use Rattle.std.specs.Prelude.{◌==◌, ◌&&◌, ◌||◌, not, ℕ, Bool, true, false, cond, List, [], ◌∷◌, ◌++◌, Option, Some, None, bytes_eq, codes, map}
use Rattle.std.specs.Char.{is_ascii_whitespace}
use Rattle.std.specs.List.{list_all, list_any}
use Rattle.bib_text.specs.Characters as char
use Rattle.bib_text.specs.Places.{between, place}
use Rattle.bib_syntax.specs.Reading.{FieldReading}
use Rattle.edit_entries.specs.Changes.{EntryChange, FieldChange, NewField, NewValue, edits_of_entry, value_end}
use Rattle.edit_entries.specs.Edits.{edited_all}
use Rattle.edit_entries.specs.Layouts.{after_equals, before_equals, sign_at}
use Rattle.edit_entries.specs.Setting.{white_before}
use Rattle.edit_entry_merge.specs.Frames.{outside_of_fields}
use Rattle.edit_entry_merge.specs.Picks.{FieldPick, additions, is_staying, picks}
use Rattle.edit_entry_merge.specs.Versions.{Version}

-- ---- copied fields

-- the value of a field of a text as a new value: the same bytes, without the white space after them
abbrev pub copied : List ℕ → FieldReading → NewValue
copied text f =
    record { bytes = between (place text f.value.start) (place text (value_end text f)); pieces = f.value.pieces }

-- a field of a text as a new field
abbrev pub copied_field : List ℕ → FieldReading → NewField
copied_field text f = record { name = f.name.text; value = copied text f }

-- a field of `text` as a new field, with its own value, or with that of a field of the text `other`
abbrev pub field_written : List ℕ → List ℕ → FieldReading → FieldPick → NewField
field_written text other f FieldPick.keep = copied_field text f
field_written text other f (FieldPick.copy g) = record { name = f.name.text; value = copied other g }
field_written text other f FieldPick.remove = copied_field text f

-- whether only ASCII white space is around the equals sign of a field
abbrev pub has_plain_sign : List ℕ → FieldReading → Bool
has_plain_sign text f = list_all is_ascii_whitespace (before_equals text f) && list_all is_ascii_whitespace (after_equals text f)

-- the text between the name of a field and its value; ` = ` if other characters than ASCII white space are around the equals sign
abbrev pub own_sign : List ℕ → FieldReading → List ℕ
own_sign text f = cond (has_plain_sign text f) (before_equals text f ++ char.equals ∷ after_equals text f) (codes " = ")

-- the text between a name and a value in the place of a field: that of the field itself for its own name, or else one in its layout
abbrev pub sign_for : List ℕ → FieldReading → List FieldReading → List ℕ → List ℕ
sign_for text f fields name = cond (bytes_eq name f.name.text) (own_sign text f) (sign_at text f fields name)

-- ---- the changes

-- the change of a field by its pick; `other` is the text of a copied field
abbrev pub picked_change : List ℕ → FieldPick → FieldChange
picked_change other FieldPick.keep = FieldChange.kept
picked_change other (FieldPick.copy g) = FieldChange.valued (copied other g)
picked_change other FieldPick.remove = FieldChange.removed

-- The changes of the last field that stays and of the fields after it, if one of these is removed or fields are added. The last field
-- becomes that which stays, with the added fields after it, and the fields before it are removed. So the text after the last
-- field stays: a comma, white space and the closing brace
abbrev pub closing_changes : List ℕ → List ℕ → List FieldReading → FieldReading → FieldPick → List FieldReading → List FieldReading
    → List FieldChange
closing_changes text other all f p following added =
    map (λ g. FieldChange.removed) following
    ++ FieldChange.replaced (sign_for text f all) (field_written text other f p) (map (copied_field other) added)
    (white_before text f.name.start)
    ∷ []

-- the changes of the last field that stays and of the fields after it
abbrev pub last_changes : List ℕ → List ℕ → List FieldReading → FieldReading → FieldPick → List FieldReading → List FieldReading
    → List FieldChange
last_changes text other all f p [] [] = picked_change other p ∷ []
last_changes text other all f p [] (g ∷ added) = closing_changes text other all f p [] (g ∷ added)
last_changes text other all f p (h ∷ following) added = closing_changes text other all f p (h ∷ following) added

-- the changes of fields with these picks. `all` are all fields of the entry, and `added` the fields that are added
abbrev pub mixed_field_changes : List ℕ → List ℕ → List FieldReading → List FieldReading → List FieldPick → List FieldReading
    → List FieldChange
mixed_field_changes text other all added [] fs = []
mixed_field_changes text other all added (p ∷ ps) [] = []
mixed_field_changes text other all added (p ∷ ps) (f ∷ fs) =
    cond (list_any is_staying ps) (picked_change other p ∷ mixed_field_changes text other all added ps fs)
    (last_changes text other all f p fs added)

-- the change of the main version's entry
abbrev pub mixed_change : (List ℕ → Bool) → Version → Version → EntryChange
mixed_change takes main other = record {
  kind = None;
  fields =
      mixed_field_changes main.text other.text main.entry.fields (additions takes main other) (picks takes main other) main.entry.fields;
}

-- ---- the text

-- the bytes between the fields of an entry and after the last one, up to the closing brace
abbrev pub field_gaps : List ℕ → List FieldReading → ℕ → List ℕ
field_gaps text [] end = []
field_gaps text (f ∷ fs) end = outside_of_fields text f.value.end fs end

-- whether a comment is between the fields of a version or after the last one
abbrev pub has_inner_comment : Version → Bool
has_inner_comment v = list_any (λ b. b == char.percent) (field_gaps v.text v.entry.fields v.entry.end)

-- whether a list is empty
abbrev pub is_empty_list : {A : Type 0} → List A → Bool
is_empty_list [] = true
is_empty_list (x ∷ xs) = false

-- whether fields with these picks can be written with these added ones: a field stays, and no comment is between the fields unless only
-- values change
abbrev pub can_write : Version → List FieldPick → List FieldReading → Bool
can_write main ps added =
    list_any is_staying ps && ((list_all is_staying ps && is_empty_list added) || not (has_inner_comment main))

-- the text of the main version with the fields that count, if they can be written
abbrev pub mixed_text : (List ℕ → Bool) → Version → Version → Option (List ℕ)
mixed_text takes main other =
    cond (can_write main (picks takes main other) (additions takes main other))
    (Some (edited_all (edits_of_entry main.text main.entry (mixed_change takes main other)) main.text)) None
