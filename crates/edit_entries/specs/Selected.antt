-- Meaning: words of public contracts.
-- Entries whose keys are selected: a field of each is unset, or each is removed, or the first entry with each key is removed.
use Rattle.std.specs.Prelude.{◌≡◌, ℕ, ◌+◌, ◌&&◌, Bool, true, false, if◌then◌else◌, List, [], ◌∷◌, ◌++◌, filter, map, not, ⊤}
use Rattle.std.specs.Char.{is_whitespace}
use Rattle.std.specs.List.{flat_map, list_all, list_any}
use Rattle.bib_text.specs.Places.{Longest, place}
use Rattle.bib_syntax.specs.Reading.{EntryReading}
use Rattle.bib_queries.specs.Needed.{is_listed}
use Rattle.edit_entries.specs.Documents.{Document, EntryRemoved, have_only, is_keyed}
use Rattle.edit_entries.specs.Edits.{Edit, edited_all, placeless}
use Rattle.edit_entries.specs.Unset.{unset_edits, without_named}
use Rattle.edit_entries.specs.declared.errors.EditError.{EditError}
use Rattle.edit_entries.specs.declared.errors.EditError.TheVariants.{UnknownKey, KeyIsThere, NotAKey, NotAName, NotInBraces, NotBare, DefinitionIsThere, NoFieldLeft, OutOfMemory}

-- ---- a field is unset

-- the edits that unset a field of an entry, if its key is selected
abbrev pub unset_if_selected : (List ℕ → Bool) → List ℕ → List ℕ → EntryReading → List Edit
unset_if_selected selected text name e = if selected e.key.text then unset_edits text name e else []

-- an entry without its fields with this name, if its key is selected
abbrev pub without_if_selected : (List ℕ → Bool) → List ℕ → EntryReading → EntryReading
without_if_selected selected name e = if selected e.key.text then without_named name e else e

-- whether the key of an entry is selected, the entry has at least one field, and each of its fields has this name, in any ASCII case
abbrev pub would_be_empty : (List ℕ → Bool) → List ℕ → EntryReading → Bool
would_be_empty selected name e = selected e.key.text && have_only name e.fields

-- the document after a field is unset in entries. The edits of `unset_edits` are made in each entry whose key is selected. None of these
-- entries loses all its fields. The reading is as it was except for their fields with the name and byte offsets.
pub record FieldsUnset (d : Document) (selected : List ℕ → Bool) (name : List ℕ) (after : Document) : Type 0 where
  pub left : list_any (would_be_empty selected name) d.says.entries ≡ false
  pub text : after.text ≡ edited_all (flat_map (unset_if_selected selected d.text name) d.says.entries) d.text
  pub alike : placeless after.says ≡ placeless (record d.says { entries = map (without_if_selected selected name) d.says.entries })

-- for each error, the condition under which unsetting a field of entries may be refused with it
abbrev pub UnsettingIsRefused : Document → (List ℕ → Bool) → List ℕ → EditError → Type 0
UnsettingIsRefused d selected name UnknownKey = ⊥
UnsettingIsRefused d selected name KeyIsThere = ⊥
UnsettingIsRefused d selected name NotAKey = ⊥
UnsettingIsRefused d selected name NotAName = ⊥
UnsettingIsRefused d selected name NotInBraces = ⊥
UnsettingIsRefused d selected name NotBare = ⊥
UnsettingIsRefused d selected name DefinitionIsThere = ⊥
UnsettingIsRefused d selected name NoFieldLeft = list_any (would_be_empty selected name) d.says.entries ≡ true
UnsettingIsRefused d selected name OutOfMemory = ⊤

-- ---- entries are removed

-- the edits that remove entries, each from its at sign up to the end of the white space after it
pub data AreRemovals (text : List ℕ) : List EntryReading → List Edit → Type 0 where
  none : AreRemovals text [] []
  next : {e : EntryReading} {es : List EntryReading} {at : ℕ} {edits : List Edit}
      → Longest is_whitespace (place text (e.end + 1)) (place text at) → AreRemovals text es edits
      → AreRemovals text (e ∷ es) (record { start = e.start; end = at; bytes = [] } ∷ edits)

-- whether the key of an entry is selected
abbrev pub has_selected_key : (List ℕ → Bool) → EntryReading → Bool
has_selected_key selected e = selected e.key.text

-- the outcome of removing entries: each entry whose key is selected is removed with the white space after it. The reading is as it was
-- except for these entries and byte offsets.
pub record EntriesRemoved (d : Document) (selected : List ℕ → Bool) (after : Document) : Type 0 where
  pub edits : List Edit
  pub removals : AreRemovals d.text (filter (has_selected_key selected) d.says.entries) edits
  pub text : after.text ≡ edited_all edits d.text
  pub alike : placeless after.says
      ≡ placeless (record d.says { entries = filter (λ e. not (has_selected_key selected e)) d.says.entries })

-- ---- the first entry with each key is removed

-- the entries of a list that pass a test. The test receives all earlier entries, which begin with `before`, and the entry
abbrev pub passing_after : (List EntryReading → EntryReading → Bool) → List EntryReading → List EntryReading → List EntryReading
passing_after test before [] = []
passing_after test before (e ∷ es) =
    if test before e then e ∷ passing_after test (before ++ e ∷ []) es else passing_after test (before ++ e ∷ []) es

-- whether an entry has one of these keys, and no entry before it has the same key
abbrev pub is_first_with : List (List ℕ) → List EntryReading → EntryReading → Bool
is_first_with keys before e = is_listed keys e.key.text && not (list_any (is_keyed e.key.text) before)

-- whether each of these keys is the key of one of these entries
abbrev pub has_each : List EntryReading → List (List ℕ) → Bool
has_each entries keys = list_all (λ key. list_any (is_keyed key) entries) keys

-- the outcome of removing entries by their keys: each key is that of an entry, and the first entry with it is removed with the white space
-- after it. The reading is as it was except for these entries and byte offsets.
pub record FirstsRemoved (d : Document) (keys : List (List ℕ)) (after : Document) : Type 0 where
  pub found : has_each d.says.entries keys ≡ true
  pub edits : List Edit
  pub removals : AreRemovals d.text (passing_after (is_first_with keys) [] d.says.entries) edits
  pub text : after.text ≡ edited_all edits d.text
  pub alike : placeless after.says
      ≡ placeless (record d.says { entries = passing_after (λ before e. not (is_first_with keys before e)) [] d.says.entries })

-- for each error, the condition under which removing the first entries with these keys may be refused with it
abbrev pub FirstsAreRefused : Document → List (List ℕ) → EditError → Type 0
FirstsAreRefused d keys UnknownKey = has_each d.says.entries keys ≡ false
FirstsAreRefused d keys KeyIsThere = ⊥
FirstsAreRefused d keys NotAKey = ⊥
FirstsAreRefused d keys NotAName = ⊥
FirstsAreRefused d keys NotInBraces = ⊥
FirstsAreRefused d keys NotBare = ⊥
FirstsAreRefused d keys DefinitionIsThere = ⊥
FirstsAreRefused d keys NoFieldLeft = ⊥
FirstsAreRefused d keys OutOfMemory = ⊤

-- removing the first entry with each of these keys, one after the other
pub data RemovedInTurn : List (List ℕ) → Document → Document → Type 0 where
  none : {d : Document} → RemovedInTurn [] d d
  next : {key : List ℕ} {keys : List (List ℕ)} {d between after : Document} → EntryRemoved d key between
      → RemovedInTurn keys between after → RemovedInTurn (key ∷ keys) d after
