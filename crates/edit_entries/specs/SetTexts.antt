-- Machinery: words of private contracts.
-- The text after a field of an entry is set, by the entry's reading.
use Rattle.std.specs.Prelude.{◌≡◌, ℕ, true, false, List, [], ◌∷◌, map, ⊤}
use Rattle.std.specs.List.{AllByRecursion, list_any}
use Rattle.bib_syntax.specs.Reading.{EntryReading, FieldReading}
use Rattle.edit_entries.specs.Changes.{edits_of_entry, edits_of_fields}
use Rattle.edit_entries.specs.Documents.{has_name}
use Rattle.edit_entries.specs.EditList.{AreEditsInOrder}
use Rattle.edit_entries.specs.Edits.{edited, edited_all}
use Rattle.edit_entries.specs.Placed.{HasComma, IsNamePlaced, IsPlaced, IsSignPlaced}
use Rattle.edit_entries.specs.Setting.{CanBeNewName, IsAfterComma, IsWritableAt, SetValue, field_put, has_other_value, only_field_text, set_change, unfit_error, values_set}
use Rattle.edit_entries.specs.declared.errors.EditError.{EditError}
use Rattle.edit_entries.specs.declared.errors.EditError.TheVariants.{UnknownKey, KeyIsThere, NotAKey, NotAName, NotInBraces, NotBare, DefinitionIsThere, NoFieldLeft, OutOfMemory}

-- the condition on an entry in a text under which one of its fields can be set
pub record CanBeSetIn (text : List ℕ) (e : EntryReading) (name : List ℕ) (value : SetValue) : Type 0 where
  pub comma : HasComma text e
  pub values : AllByRecursion (IsPlaced text) e.fields
  pub names : AllByRecursion (IsNamePlaced text) e.fields
  pub signs : AllByRecursion (IsSignPlaced text) e.fields
  pub ordered : AreEditsInOrder text 0 (edits_of_fields text e.fields (map (set_change name value) e.fields))

-- the text after a field of an entry is set
pub data IsSetText (definitions : List FieldReading) (text : List ℕ) (e : EntryReading) (name : List ℕ) (value : SetValue)
    (new : List ℕ) : Type 0 where
  changed : list_any (has_name name) e.fields ≡ true
      → (list_any (has_other_value name value) e.fields ≡ true → IsWritableAt definitions e.start value)
      → new ≡ edited_all (edits_of_entry text e (values_set name value e)) text → IsSetText definitions text e name value new
  added : {first : FieldReading} {others : List FieldReading} → list_any (has_name name) e.fields ≡ false
      → e.fields ≡ first ∷ others → CanBeNewName name → IsWritableAt definitions e.start value
      → new ≡ edited_all (edits_of_entry text e (field_put text name value first others)) text → IsSetText definitions text e name value new
  only : {at : ℕ} → e.fields ≡ [] → IsAfterComma text e at → CanBeNewName name → IsWritableAt definitions e.start value
      → new ≡ edited (record { start = at; end = at; bytes = only_field_text name value }) text
      → IsSetText definitions text e name value new

-- a value can't be written at a byte offset; this is the error for it
pub record IsUnfit (definitions : List FieldReading) (at : ℕ) (value : SetValue) (error : EditError) : Type 0 where
  pub because : error ≡ unfit_error value
  pub unfit : IsWritableAt definitions at value → ⊥

-- for each error, the condition under which a new field may be refused with it
abbrev pub AddIsRefused : List FieldReading → ℕ → List ℕ → SetValue → EditError → Type 0
AddIsRefused definitions at name value UnknownKey = ⊥
AddIsRefused definitions at name value KeyIsThere = ⊥
AddIsRefused definitions at name value NotAKey = ⊥
AddIsRefused definitions at name value NotAName = CanBeNewName name → ⊥
AddIsRefused definitions at name value NotInBraces = IsUnfit definitions at value NotInBraces
AddIsRefused definitions at name value NotBare = IsUnfit definitions at value NotBare
AddIsRefused definitions at name value DefinitionIsThere = ⊥
AddIsRefused definitions at name value NoFieldLeft = ⊥
AddIsRefused definitions at name value OutOfMemory = ⊤

-- a value can't be written in an entry in which no field has the name, or a field with the name has another value. `error` is the
-- error for it
pub record CantBeSetIn (definitions : List FieldReading) (e : EntryReading) (name : List ℕ) (value : SetValue)
    (error : EditError) : Type 0 where
  pub because : error ≡ unfit_error value
  pub unfit : IsWritableAt definitions e.start value → ⊥
  pub new : list_any (has_name name) e.fields ≡ true → list_any (has_other_value name value) e.fields ≡ true

-- for each error, the condition under which setting a field of an entry may be refused with it
abbrev pub SetTextIsRefused : List FieldReading → EntryReading → List ℕ → SetValue → EditError → Type 0
SetTextIsRefused definitions e name value UnknownKey = ⊥
SetTextIsRefused definitions e name value KeyIsThere = ⊥
SetTextIsRefused definitions e name value NotAKey = ⊥
SetTextIsRefused definitions e name value NotAName = CanBeNewName name → ⊥
SetTextIsRefused definitions e name value NotInBraces = CantBeSetIn definitions e name value NotInBraces
SetTextIsRefused definitions e name value NotBare = CantBeSetIn definitions e name value NotBare
SetTextIsRefused definitions e name value DefinitionIsThere = ⊥
SetTextIsRefused definitions e name value NoFieldLeft = ⊥
SetTextIsRefused definitions e name value OutOfMemory = ⊤
