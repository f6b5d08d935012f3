-- Machinery: words of private contracts.
-- The versions and the picks, in the types of the code.
use Rattle.std.specs.Prelude.{◌≡◌, ℕ, suc, String, Bool, true, false, not, cond, List, [], ◌∷◌, filter, map, Option, Some, None, IfSome, option_map, ⊤}
use Rattle.std.specs.Borrow.{Bor}
use Rattle.std.specs.BTreeMap.{BTreeMap, get_by_text}
use Rattle.std.specs.List.{AllByRecursion, find, list_any}
use Rattle.std.specs.Option.{option_or}
use Rattle.std.specs.Str.{IsUtf8, str_to_ascii_lowercase}
use Rattle.bib_syntax.specs.Reading.{FieldReading, FileReading}
use Rattle.bib_syntax.specs.Views.{entry_reading_of, field_of}
use Rattle.bib_syntax.specs.declared.raw.Pair.{Pair}
use Rattle.edit_entries.specs.Changes.{FieldChange}
use Rattle.edit_entries.specs.Documents.{IsDocument, has_name}
use Rattle.edit_entries.specs.Placed.{IsNamePlaced, IsPlaced, IsSignPlaced}
use Rattle.edit_entry_merge.specs.Choices.{has_field_named, is_conflict}
use Rattle.edit_entry_merge.specs.Picks.{FieldPick, is_staying}
use Rattle.edit_entry_merge.specs.Versions as spec
use Rattle.edit_entry_merge.specs.declared.picks.Addition.{Addition}
use Rattle.edit_entry_merge.specs.declared.picks.Fate.{Fate}
use Rattle.edit_entry_merge.specs.declared.picks.Fate.TheVariants.{Keep, Copy, Remove}
use Rattle.edit_entry_merge.specs.declared.picks.Pick.{Pick}
use Rattle.edit_entry_merge.specs.declared.versions.Version.{Version}
use Rattle.edit_entry_merge.specs.declared.versions.Versions.{Versions}

-- the field that is borrowed, if there is one
abbrev pub lent_field : Option (Bor Pair) → Option FieldReading
lent_field found = option_map (λ f. field_of f.now) found

-- the text that is borrowed, if there is one
abbrev pub borrowed_text : Option (Bor (List ℕ)) → Option (List ℕ)
borrowed_text found = option_map (λ t. t.now) found

-- the fields that are added
abbrev pub added_fields : List Addition → List FieldReading
added_fields added = map (λ a. field_of a.field.now) added

-- the field that a map has for a name, by the name in ASCII lowercase
abbrev pub field_by_name : {A : Type 0} → BTreeMap (String A) (Bor Pair) → List ℕ → Option FieldReading
field_by_name fields name = lent_field (get_by_text fields (str_to_ascii_lowercase name))

-- a map has the first of these fields for each name
abbrev pub HasFirst : {A : Type 0} → BTreeMap (String A) (Bor Pair) → List FieldReading → Type 0
HasFirst map fields = (name : List ℕ) → field_by_name map name ≡ find (has_name name) fields

-- the version that a value of the code represents
abbrev pub version_reading : Version → spec.Version
version_reading v = record { text = v.text.now; entry = entry_reading_of v.entry.now }

-- a version is that of a document
pub record IsReadVersion (v : spec.Version) : Type 0 where
  pub says : FileReading
  pub read : IsDocument (record { text = v.text; says = says })
  pub only : says.entries ≡ v.entry ∷ []
  pub utf8 : IsUtf8 v.text

-- a version is that of a document, and its map finds its fields
pub record IsIndexed (v : Version) : Type 0 where
  pub finds : HasFirst v.fields (entry_reading_of v.entry.now).fields
  pub read : IsReadVersion (version_reading v)

-- the versions that a value of the code represents
abbrev pub versions_reading : Versions → spec.EntryVersions
versions_reading vs = record {
  base = option_map version_reading vs.base;
  ours = version_reading vs.ours;
  theirs = version_reading vs.theirs;
}

-- each of the versions is that of a document, and its map finds its fields
pub record AreIndexed (vs : Versions) : Type 0 where
  pub base : IfSome vs.base IsIndexed
  pub ours : IsIndexed vs.ours
  pub theirs : IsIndexed vs.theirs

-- no field was found yet
abbrev pub is_new : Option FieldReading → Bool
is_new None = true
is_new (Some f) = false

-- the second map has what the first one has, and a field for its name if the first one has none
abbrev pub AddsFirst : {A : Type 0} → BTreeMap (String A) (Bor Pair) → FieldReading → BTreeMap (String A) (Bor Pair) → Type 0
AddsFirst old f new =
    (name : List ℕ) → field_by_name new name ≡ option_or (field_by_name old name) (cond (has_name name f) (Some f) None)

-- the pick with this fate, and the field whose value a field gets
abbrev pub pick_with : Fate → FieldReading → FieldPick
pick_with Keep f = FieldPick.keep
pick_with Copy f = FieldPick.copy f
pick_with Remove f = FieldPick.remove

-- the pick that a value of the code represents
abbrev pub pick_of : Pick → FieldPick
pick_of p = pick_with p.fate (field_of p.field.now)

-- the number of fields up to the last one that stays
abbrev pub count_to_last : List FieldPick → ℕ
count_to_last [] = 0
count_to_last (p ∷ ps) = cond (list_any is_staying (p ∷ ps)) (suc (count_to_last ps)) 0

-- the names of those of these fields that conflict
abbrev pub conflicts_of : spec.EntryVersions → List FieldReading → List (List ℕ)
conflicts_of vs fields = map (λ f. f.name.text) (filter (λ f. is_conflict vs f.name.text) fields)

-- the names of those of these fields that conflict and that ours lacks
abbrev pub other_conflicts_of : spec.EntryVersions → List FieldReading → List (List ℕ)
other_conflicts_of vs fields = conflicts_of vs (filter (λ f. not (has_field_named f.name.text vs.ours)) fields)

-- ---- edits

-- the fields of an entry, and their values and equals signs, may be cut out of a text
pub record AreEditable (text : List ℕ) (fields : List FieldReading) : Type 0 where
  pub values : AllByRecursion (IsPlaced text) fields
  pub signs : AllByRecursion (IsSignPlaced text) fields
  pub names : AllByRecursion (IsNamePlaced text) fields

-- the value of a copied field may be cut out of a text
abbrev pub IsPickPlaced : List ℕ → FieldPick → Type 0
IsPickPlaced other FieldPick.keep = ⊤
IsPickPlaced other (FieldPick.copy g) = IsPlaced other g
IsPickPlaced other FieldPick.remove = ⊤

-- the changes that remove each of these fields
abbrev pub all_removed : List FieldReading → List FieldChange
all_removed fields = map (λ f. FieldChange.removed) fields
