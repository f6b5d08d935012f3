-- Meaning: words of public contracts.
-- Entries that a side renamed. Before a merge each version gets their new keys, so that the merge finds such an entry on both sides.
use Rattle.std.specs.Prelude.{◌≡◌, ◌≢◌, ◌==◌, ◌+◌, ◌&&◌, ℕ, Bool, not, List, [], Option, Some, None, bytes_eq, cond, count_by, filter, map, option_and_then, option_map, slice_get}
use Rattle.std.specs.List.{enumerate_from, filter_map, find}
use Rattle.bib_syntax.specs.Reading.{EntryReading}
use Rattle.edit_changes.specs.Changes.{renamed_to}
use Rattle.edit_entries.specs.Documents.{Document, IsDocument, IsEdited}
use Rattle.edit_entries.specs.References.{KeysAreRefused, KeysRenamed}
use Rattle.edit_entries.specs.declared.errors.EditError.{EditError}
use Rattle.edit_entries.specs.declared.errors.EditError.TheVariants.{OutOfMemory}
use Rattle.edit_merge.specs.Picked.{Versions}
use Rattle.edit_units.specs.Units.{UnitReading}
use Rattle.edit_versions.specs.Alike.{single_entry}
use Rattle.edit_versions.specs.Versions.{VersionReading, version_names, version_unit}

-- ---- what the sides renamed

-- the old and the new key of a renamed entry
pub record RenameReading : Type 0 where
  pub old : List ℕ
  pub new : List ℕ

-- the key of the only entry of a unit
abbrev pub single_key : Option UnitReading → Option (List ℕ)
single_key None = None
single_key (Some u) = option_map (λ e. e.key.text) (single_entry u)

-- the new key of the entry at an index of the base, if a side renamed it
abbrev pub key_on_side : VersionReading → VersionReading → ℕ → Option (List ℕ)
key_on_side base side index = single_key (version_unit side (renamed_to base side index))

-- the new key of an entry, given those on both sides: that of the side that renamed it, or of both if they are equal
abbrev pub agreed_key : Option (List ℕ) → Option (List ℕ) → Option (List ℕ)
agreed_key None theirs = theirs
agreed_key (Some ours) None = Some ours
agreed_key (Some ours) (Some theirs) = cond (bytes_eq ours theirs) (Some ours) None

-- the rename of an entry, if it has an old and a new key
abbrev pub rename_from : Option (List ℕ) → Option (List ℕ) → Option RenameReading
rename_from None new = None
rename_from (Some old) None = None
rename_from (Some old) (Some new) = Some (record { old = old; new = new })

-- the rename of the entry at an index of the base, if a side renamed it, and the other side didn't give it another key
abbrev pub rename_at : Versions → ℕ → Option RenameReading
rename_at vs index =
    rename_from (single_key (version_unit vs.base (Some index)))
    (agreed_key (key_on_side vs.base vs.ours index) (key_on_side vs.base vs.theirs index))

-- the renames of both sides, in the order of the entries in the base
abbrev pub renames_of_sides : Versions → List RenameReading
renames_of_sides vs = filter_map (λ x. rename_at vs x.0) (enumerate_from 0 (version_names vs.base))

-- ---- which renames count

-- the versions of a merge as documents
pub record Documents : Type 0 where
  pub base : Document
  pub ours : Document
  pub theirs : Document

-- a document has the text of a version and its reading
pub record IsVersionDocument (v : VersionReading) (d : Document) : Type 0 where
  pub text : d.text ≡ v.text
  pub read : IsDocument d

-- documents have the texts of the versions of a merge and their readings
pub record AreDocumentsOf (vs : Versions) (ds : Documents) : Type 0 where
  pub base : IsVersionDocument vs.base ds.base
  pub ours : IsVersionDocument vs.ours ds.ours
  pub theirs : IsVersionDocument vs.theirs ds.theirs

-- the keys of the entries of a document
abbrev pub entry_keys : Document → List (List ℕ)
entry_keys d = map (λ e. e.key.text) d.says.entries

-- whether exactly one entry has the old or the new key of a rename
abbrev pub has_one : Document → RenameReading → Bool
has_one d r = count_by (bytes_eq r.old) (entry_keys d) + count_by (bytes_eq r.new) (entry_keys d) == 1

-- whether exactly one entry of each version has the old or the new key of a rename
abbrev pub have_one : Documents → RenameReading → Bool
have_one ds r = has_one ds.base r && (has_one ds.ours r && has_one ds.theirs r)

-- whether no two versions have the same text
abbrev pub have_different_texts : Versions → Bool
have_different_texts vs =
    not (bytes_eq vs.ours.text vs.base.text)
    && (not (bytes_eq vs.theirs.text vs.base.text) && not (bytes_eq vs.ours.text vs.theirs.text))

-- the renames that count: exactly one entry of each version has the old or the new key. If two versions have the same text, none counts
abbrev pub renames : Versions → Documents → List RenameReading
renames vs ds = cond (have_different_texts vs) (filter (have_one ds) (renames_of_sides vs)) []

-- ---- the new texts

-- the key that replaces a key, by the first of these renames with this old key
abbrev pub new_key : List RenameReading → List ℕ → Option (List ℕ)
new_key rs key = option_map (λ r. r.new) (find (λ r. bytes_eq r.old key) rs)

-- the new key of the entry at an index of a document, given a function from keys to the keys that replace them
abbrev pub keys_after : (List ℕ → Option (List ℕ)) → Document → ℕ → Option (List ℕ)
keys_after keys d index = option_and_then (λ e. keys e.key.text) (slice_get d.says.entries index)

-- an entry of a document gets a new key
pub record HasNewKey (keys : List ℕ → Option (List ℕ)) (d : Document) : Type 0 where
  pub index : ℕ
  pub key : List ℕ
  pub is : keys_after keys d index ≡ Some key

-- a text is that of a document in which some entries get new keys, and the references to these entries, too
pub record IsRenamedText (keys : List ℕ → Option (List ℕ)) (d : Document) (text : List ℕ) : Type 0 where
  pub some : HasNewKey keys d
  pub edited : IsEdited (KeysRenamed d (keys_after keys d)) text

-- the new text of a document, or none if no entry gets a new key
abbrev pub IsNewText : (List ℕ → Option (List ℕ)) → Document → Option (List ℕ) → Type 0
IsNewText keys d None = (index : ℕ) → keys_after keys d index ≡ None
IsNewText keys d (Some text) = IsRenamedText keys d text

-- the new keys of a document may be refused with an error other than that of memory
pub record AreRefusedIn (keys : List ℕ → Option (List ℕ)) (d : Document) : Type 0 where
  pub error : EditError
  pub refused : KeysAreRefused d (keys_after keys d) error
  pub reason : error ≢ OutOfMemory

-- the new texts of the versions, except for those that stay
pub record NewTexts : Type 0 where
  pub base : Option (List ℕ)
  pub ours : Option (List ℕ)
  pub theirs : Option (List ℕ)

-- all texts stay
abbrev pub no_texts : NewTexts
no_texts = record { base = None; ours = None; theirs = None }

-- each document gets its new text. Or all texts stay, because the new keys of one document are refused
pub data AreNewTexts (keys : List ℕ → Option (List ℕ)) (ds : Documents) : NewTexts → Type 0 where
  renamed : {base ours theirs : Option (List ℕ)} → IsNewText keys ds.base base → IsNewText keys ds.ours ours
      → IsNewText keys ds.theirs theirs → AreNewTexts keys ds (record { base = base; ours = ours; theirs = theirs })
  refused_base : AreRefusedIn keys ds.base → AreNewTexts keys ds no_texts
  refused_ours : AreRefusedIn keys ds.ours → AreNewTexts keys ds no_texts
  refused_theirs : AreRefusedIn keys ds.theirs → AreNewTexts keys ds no_texts

-- the new texts of the versions of a merge: those after the renames that count
abbrev pub HaveNewTexts : Versions → NewTexts → Type 0
HaveNewTexts vs texts = (ds : Documents) → AreDocumentsOf vs ds → AreNewTexts (new_key (renames vs ds)) ds texts

-- ---- exchanged sides

-- documents with the sides exchanged
abbrev pub exchanged_documents : Documents → Documents
exchanged_documents ds = record { base = ds.base; ours = ds.theirs; theirs = ds.ours }

-- new texts with the sides exchanged
abbrev pub exchanged_texts : NewTexts → NewTexts
exchanged_texts texts = record { base = texts.base; ours = texts.theirs; theirs = texts.ours }
