-- Meaning: words of public contracts.
-- Parts of a document that may be cut out of its text.
use Rattle.std.specs.Prelude.{◌≡◌, ℕ, ◌+◌, ◌<◌, ◌≤◌, List, length, slice_get, Some}
use Rattle.std.specs.Str.{IsCharBoundary}
use Rattle.bib_syntax.specs.Reading.{EntryReading, FieldReading}
use Rattle.edit_entries.specs.Documents.{field_limit}
use Rattle.edit_entries.specs.Setting.{IsAfterComma}

-- the value of a field may be cut out of a text
pub record IsPlaced (text : List ℕ) (f : FieldReading) : Type 0 where
  pub ordered : f.value.start ≤ f.value.end
  pub start : IsCharBoundary text f.value.start
  pub end : IsCharBoundary text f.value.end

-- an entry may be cut out of a text
pub record IsEntryPlaced (text : List ℕ) (e : EntryReading) : Type 0 where
  pub ordered : e.start ≤ e.end
  pub within : e.end < length text
  pub start : IsCharBoundary text e.start
  pub end : IsCharBoundary text (e.end + 1)

-- a field of an entry may be cut out of a text, up to the next one
pub record IsFieldPlaced (text : List ℕ) (e : EntryReading) (j : ℕ) (f : FieldReading) : Type 0 where
  pub ordered : f.name.start ≤ field_limit e j
  pub start : IsCharBoundary text f.name.start
  pub end : IsCharBoundary text (field_limit e j)

-- each field of an entry may be cut out of a text
abbrev pub AreFieldsPlaced : List ℕ → EntryReading → Type 0
AreFieldsPlaced text e = (j : ℕ) (f : FieldReading) → slice_get e.fields j ≡ Some f → IsFieldPlaced text e j f

-- the key of an entry may be cut out of a text
pub record IsKeyPlaced (text : List ℕ) (e : EntryReading) : Type 0 where
  pub ordered : e.key.start ≤ e.key.end
  pub start : IsCharBoundary text e.key.start
  pub end : IsCharBoundary text e.key.end

-- the comma after an entry's key, in a text
pub record HasComma (text : List ℕ) (e : EntryReading) : Type 0 where
  pub key_end : IsCharBoundary text e.key.end
  pub at : ℕ
  pub is : IsAfterComma text e at

-- the text between the name and the value of a field may be cut out of a text
pub record IsSignPlaced (text : List ℕ) (f : FieldReading) : Type 0 where
  pub ordered : f.name.end ≤ f.value.start
  pub start : IsCharBoundary text f.name.end
  pub end : IsCharBoundary text f.value.start

-- the name of a field may be cut out of a text
pub record IsNamePlaced (text : List ℕ) (f : FieldReading) : Type 0 where
  pub ordered : f.name.start ≤ f.name.end
  pub start : IsCharBoundary text f.name.start
  pub end : IsCharBoundary text f.name.end
