-- Meaning: words of public contracts.
-- Entries with new keys: their unchanged parts before they inherit, and the entries that their references name.
use Rattle.std.specs.Prelude.{◌≡◌, ◌⊎◌, ℕ, ◌<◌, true, false, is_some, List, [], ◌∷◌, Option, Some, slice_get}
use Rattle.std.specs.List.{AllZip}
use Rattle.std.specs.Option.{unwrap_or}
use Rattle.std.specs.Str.{trim}
use Rattle.bib_entry.specs.declared.entry.Entry.{Entry}
use Rattle.bib_inheritance.specs.EntryTexts.{fields_of}
use Rattle.bib_syntax.specs.Reading.Piece.{literal}
use Rattle.bib_syntax.specs.Reading.{EntryReading, FieldReading, Part}
use Rattle.bib_tables.specs.ReferenceFields.{is_reference_field}
use Rattle.edit_entries.specs.Documents.{Document}
use Rattle.edit_entries.specs.References.{elements_of, meant_index}

-- ---- entries before inheriting

-- an entry is another one with the same or a new key. It has the same type and, except for reference fields, the same styled texts of its
-- own fields
pub record IsKeyRenamed (keys : ℕ → Option (List ℕ)) (one other : Entry) : Type 0 where
  pub key : (other.key ≡ one.key) ⊎ ((index : ℕ) × (keys index ≡ Some other.key))
  pub kind : other.entry_type ≡ one.entry_type
  pub fields : (name : List ℕ) → is_reference_field name ≡ false → fields_of other.fields name ≡ fields_of one.fields name

-- ---- raw readings

-- if both documents have an entry at an index, that of the second one has the new key for this index, or the old key without one
abbrev pub HaveGivenKeys : (ℕ → Option (List ℕ)) → Document → Document → Type 0
HaveGivenKeys keys d after =
    (index : ℕ) (one other : EntryReading) → slice_get d.says.entries index ≡ Some one → slice_get after.says.entries index ≡ Some other
    → other.key.text ≡ unwrap_or (keys index) one.key.text

-- if `element` of a comma list in a field means one of `entries`, `new` means the one of `others` at the same index
abbrev pub MeansSameEntry : List EntryReading → List EntryReading → List ℕ → List ℕ → List ℕ → Type 0
MeansSameEntry entries others field element new =
    (index : ℕ) → meant_index entries field (trim element) ≡ Some index → meant_index others field (trim new) ≡ Some index

-- the field `one` of `entries` and the field `other` of `others` have the same name. If they are reference fields and the value of `one` is
-- one literal, so is the value of `other`, with as many elements. If an element of `one` means an entry, the element of `other` means the
-- entry at the same index.
pub record HasSameReferences (entries others : List EntryReading) (one other : FieldReading) : Type 0 where
  pub name : other.name.text ≡ one.name.text
  pub value : (p : Part) → is_reference_field one.name.text ≡ true → one.value.pieces ≡ literal p ∷ []
      → (q : Part) × (other.value.pieces ≡ literal q ∷ [])
      × AllZip (MeansSameEntry entries others one.name.text) (elements_of p.text) (elements_of q.text)

-- two documents have the same references: as many entries, with as many fields, which have the same references one by one
abbrev pub HaveSameReferences : Document → Document → Type 0
HaveSameReferences d after =
    AllZip (λ one other. AllZip (HasSameReferences d.says.entries after.says.entries) one.fields other.fields) d.says.entries
    after.says.entries

-- if an entry gets a new key, each earlier entry with the same key gets one too
abbrev pub AreEarlierRenamed : List EntryReading → (ℕ → Option (List ℕ)) → Type 0
AreEarlierRenamed entries keys =
    (earlier later : ℕ) (one other : EntryReading) → earlier < later → slice_get entries earlier ≡ Some one
    → slice_get entries later ≡ Some other → one.key.text ≡ other.key.text → is_some (keys later) ≡ true
    → is_some (keys earlier) ≡ true
