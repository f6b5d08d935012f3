-- Machinery: words of private contracts.
-- The conditions on a text under which a field of several entries can be edited.
use Rattle.std.specs.Prelude.{◌≡◌, ℕ, List, ⊤}
use Rattle.std.specs.List.{AllByRecursion}
use Rattle.bib_syntax.specs.Reading.{EntryReading, FieldReading}
use Rattle.edit_entries.specs.FieldEdits.{HasFitValue, IsValueError, edit_name}
use Rattle.edit_entries.specs.Placed.{IsNamePlaced, IsPlaced, IsSignPlaced}
use Rattle.edit_entries.specs.Setting.{CanBeNewName, new_value, value_of}
use Rattle.edit_entries.specs.declared.errors.EditError.{EditError}
use Rattle.edit_entries.specs.declared.errors.EditError.TheVariants.{UnknownKey, KeyIsThere, NotAKey, NotAName, NotInBraces, NotBare, DefinitionIsThere, NoFieldLeft, OutOfMemory}
use Rattle.edit_entries.specs.declared.field_edits.FieldEdit.{FieldEdit}
use Rattle.edit_entries.specs.declared.field_edits.FieldEdit.TheVariants.{Set, Add, Rename}

-- the names and values of an entry's fields, and the texts between them, may be cut out of a text
pub record HaveFieldsPlaced (text : List ℕ) (e : EntryReading) : Type 0 where
  pub names : AllByRecursion (IsNamePlaced text) e.fields
  pub values : AllByRecursion (IsPlaced text) e.fields
  pub signs : AllByRecursion (IsSignPlaced text) e.fields

-- if an edit has a value, `written` is the value as it is written
abbrev pub IsValueText : FieldEdit → List ℕ → Type 0
IsValueText (Set name value) written = written ≡ (new_value (value_of value)).bytes
IsValueText (Add name value) written = written ≡ (new_value (value_of value)).bytes
IsValueText (Rename old new) written = ⊤

-- the value of an edit can't be written at a byte offset; this is the error for it
pub record IsUnfitEdit (definitions : List FieldReading) (at : ℕ) (edit : FieldEdit) (error : EditError) : Type 0 where
  pub because : IsValueError edit error
  pub unfit : HasFitValue definitions at edit → ⊥

-- for each error, the condition under which the text of an edit at a byte offset may be refused with it
abbrev pub EditTextIsRefused : List FieldReading → ℕ → FieldEdit → EditError → Type 0
EditTextIsRefused definitions at edit UnknownKey = ⊥
EditTextIsRefused definitions at edit KeyIsThere = ⊥
EditTextIsRefused definitions at edit NotAKey = ⊥
EditTextIsRefused definitions at edit NotAName = CanBeNewName (edit_name edit) → ⊥
EditTextIsRefused definitions at edit NotInBraces = IsUnfitEdit definitions at edit NotInBraces
EditTextIsRefused definitions at edit NotBare = IsUnfitEdit definitions at edit NotBare
EditTextIsRefused definitions at edit DefinitionIsThere = ⊥
EditTextIsRefused definitions at edit NoFieldLeft = ⊥
EditTextIsRefused definitions at edit OutOfMemory = ⊤
