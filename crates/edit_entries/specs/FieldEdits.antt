-- Meaning: words of public contracts.
-- Edits of a field of several entries at once.
use Rattle.std.specs.Prelude.{◌≡◌, ℕ, Bool, if◌then◌else◌, length, List, [], ◌∷◌, map, None, ⊤}
use Rattle.std.specs.Borrow.{Bor}
use Rattle.std.specs.BTreeSet.{BTreeSet}
use Rattle.std.specs.List.{list_any}
use Rattle.bib_queries.specs.Sets.{is_in_set}
use Rattle.bib_syntax.specs.Reading.{EntryReading, FieldReading}
use Rattle.edit_entries.specs.Changes.{EntryChange, FieldChange}
use Rattle.edit_entries.specs.Documents.{Document, has_name}
use Rattle.edit_entries.specs.Setting.{CanBeNewName, IsWritableAt, SetValue, field_put, unfit_error, value_of, values_set}
use Rattle.edit_entries.specs.declared.errors.EditError.{EditError}
use Rattle.edit_entries.specs.declared.errors.EditError.TheVariants.{UnknownKey, KeyIsThere, NotAKey, NotAName, NotInBraces, NotBare, DefinitionIsThere, NoFieldLeft, OutOfMemory}
use Rattle.edit_entries.specs.declared.field_edits.FieldEdit.{FieldEdit}
use Rattle.edit_entries.specs.declared.field_edits.FieldEdit.TheVariants.{Set, Add, Rename}

-- the change of an entry that is kept
abbrev pub unchanged : EntryChange
unchanged = record { kind = None; fields = [] }

-- the change of an entry with these fields that gets a new one before them; an entry without fields is kept
abbrev pub new_field_first : List ℕ → List ℕ → SetValue → List FieldReading → EntryChange
new_field_first text name value [] = unchanged
new_field_first text name value (first ∷ others) = field_put text name value first others

-- whether an entry has a field with this name, in any ASCII case
abbrev pub has_named : List ℕ → EntryReading → Bool
has_named name e = list_any (has_name name) e.fields

-- the change of a field that gets a new name if it has the old one
abbrev pub name_change : List ℕ → List ℕ → FieldReading → FieldChange
name_change old new f = if has_name old f then FieldChange.renamed new else FieldChange.kept

-- the change of an entry whose fields with the old name get the new one
abbrev pub names_changed : List ℕ → List ℕ → EntryReading → EntryChange
names_changed old new e = record { kind = None; fields = map (name_change old new) e.fields }

-- The change of an entry by an edit; names match in any ASCII case. An entry without fields is kept. `Set`: each field with the
-- name gets the value; if there is none, a new field comes first. `Add`: if no field has the name, a new field comes first.
-- `Rename`: each field with the old name gets the new one, unless a field has that already.
abbrev pub entry_edited_by : List ℕ → FieldEdit → EntryReading → EntryChange
entry_edited_by text (Set name value) e =
    if has_named name.now e then values_set name.now (value_of value) e else new_field_first text name.now (value_of value) e.fields
entry_edited_by text (Add name value) e = if has_named name.now e then unchanged else new_field_first text name.now
    (value_of value) e.fields
entry_edited_by text (Rename old new) e = if has_named new.now e then unchanged else names_changed old.now new.now e

-- the change of an entry by an edit of the entries whose keys are in a set
abbrev pub selected_edited : List ℕ → BTreeSet (Bor (List ℕ)) → FieldEdit → EntryReading → EntryChange
selected_edited text keys edit e = if is_in_set keys e.key.text then entry_edited_by text edit e else unchanged

-- the name that fields get by an edit
abbrev pub edit_name : FieldEdit → List ℕ
edit_name (Set name value) = name.now
edit_name (Add name value) = name.now
edit_name (Rename old new) = new.now

-- the value of an edit can be written at a byte offset, if it has one
abbrev pub HasFitValue : List FieldReading → ℕ → FieldEdit → Type 0
HasFitValue definitions at (Set name value) = IsWritableAt definitions at (value_of value)
HasFitValue definitions at (Add name value) = IsWritableAt definitions at (value_of value)
HasFitValue definitions at (Rename old new) = ⊤

-- `error` is the error of an edit whose value can't be written
abbrev pub IsValueError : FieldEdit → EditError → Type 0
IsValueError (Set name value) error = error ≡ unfit_error (value_of value)
IsValueError (Add name value) error = error ≡ unfit_error (value_of value)
IsValueError (Rename old new) error = ⊥

-- the byte offset at which the first entry whose key is selected begins, or else another one
abbrev pub first_start : (List ℕ → Bool) → ℕ → List EntryReading → ℕ
first_start selected other [] = other
first_start selected other (e ∷ es) = if selected e.key.text then e.start else first_start selected other es

-- the value of an edit can't be written in the first entry with a selected key, or at the end of the text if there is none. `error`
-- is the error for it
pub record CantBeEdited (d : Document) (selected : List ℕ → Bool) (edit : FieldEdit) (error : EditError) : Type 0 where
  pub because : IsValueError edit error
  pub unfit : HasFitValue d.says.abbreviations (first_start selected (length d.text) d.says.entries) edit → ⊥

-- for each error, the condition under which the edit of a field in the entries with selected keys may be refused with it
abbrev pub FieldEditIsRefused : Document → (List ℕ → Bool) → FieldEdit → EditError → Type 0
FieldEditIsRefused d selected edit UnknownKey = ⊥
FieldEditIsRefused d selected edit KeyIsThere = ⊥
FieldEditIsRefused d selected edit NotAKey = ⊥
FieldEditIsRefused d selected edit NotAName = CanBeNewName (edit_name edit) → ⊥
FieldEditIsRefused d selected edit NotInBraces = CantBeEdited d selected edit NotInBraces
FieldEditIsRefused d selected edit NotBare = CantBeEdited d selected edit NotBare
FieldEditIsRefused d selected edit DefinitionIsThere = ⊥
FieldEditIsRefused d selected edit NoFieldLeft = ⊥
FieldEditIsRefused d selected edit OutOfMemory = ⊤
