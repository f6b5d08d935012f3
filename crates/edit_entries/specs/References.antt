-- Meaning: words of public contracts.
-- The entries that references name, and the document after entries get new keys. References to these entries get the new keys too, if
-- their values are one literal.
use Rattle.std.specs.Prelude.{◌≡◌, ℕ, suc, ◌-◌, ◌<◌, ◌==◌, Bool, true, false, if◌then◌else◌, List, [], ◌∷◌, ◌++◌, codes, length, map, take, drop, Option, Some, None, bytes_eq, is_some, option_and_then, option_map, slice_get, slice_index_or, ⊤}
use Rattle.std.specs.Borrow.{Bor}
use Rattle.std.specs.List.{AllByRecursion, find, flat_map, join_by, list_any, slice_split}
use Rattle.std.specs.Option.{option_map_or, option_or}
use Rattle.std.specs.Str.{trim, trim_end, trim_start}
use Rattle.bib_text.specs.Braces.{IsParts}
use Rattle.bib_text.specs.Characters as char
use Rattle.bib_syntax.specs.Grammar.{is_word}
use Rattle.bib_syntax.specs.Reading.{Part, Piece, FieldReading, EntryReading}
use Rattle.bib_syntax.specs.Reading.Piece.{literal, abbreviation}
use Rattle.bib_tables.specs.ReferenceFields.{is_reference_field}
use Rattle.bib_queries.specs.Names.{aliases_of}
use Rattle.bib_queries.specs.Needed.{is_listed}
use Rattle.edit_entries.specs.Documents.{CanBeKey, Document, HasEntry, entry_renamed, first_position, is_keyed, value_changed, value_edit}
use Rattle.edit_entries.specs.Edits.{Edit}
use Rattle.edit_entries.specs.NewNames.{CanBeNewKey, IsNewKeyTaken}
use Rattle.edit_entries.specs.declared.errors.EditError.{EditError}
use Rattle.edit_entries.specs.declared.errors.EditError.TheVariants.{UnknownKey, KeyIsThere, NotAKey, NotAName, NotInBraces, NotBare, DefinitionIsThere, NoFieldLeft, OutOfMemory}

-- ---- the entry that a name means

-- the first index, unless the second one is that of another key
abbrev pub unless_other : List (List ℕ) → Option ℕ → Option ℕ → Option ℕ
unless_other keys None other = None
unless_other keys (Some i) None = Some i
unless_other keys (Some i) (Some j) = if bytes_eq (slice_index_or keys i []) (slice_index_or keys j []) then Some i else None

-- whether an entry has this name in its fields `ids`
abbrev pub has_alias : List ℕ → EntryReading → Bool
has_alias name e = is_listed (aliases_of e.fields) name

-- whether an entry has this name as its key, in any ASCII case
abbrev pub has_key_word : List ℕ → EntryReading → Bool
has_key_word name e = is_word e.key.text name

-- the index of the entry that BibTeX finds by a name, unless Biber finds one with another key by its field `ids`. BibTeX finds the first
-- key that is the name in any ASCII case. If several entries have one key, both programs read the first.
abbrev pub index_in_any_case : List EntryReading → List ℕ → Option ℕ
index_in_any_case entries name =
    unless_other (map (λ e. e.key.text) entries) (first_position (has_key_word name) entries) (first_position (has_alias name) entries)

-- the index of the entry that a name in a field means: the first one with exactly this key. A name in `crossref`, the only reference
-- field that BibTeX reads, can also mean an entry by a key in another ASCII case.
abbrev pub meant_index : List EntryReading → List ℕ → List ℕ → Option ℕ
meant_index entries field name =
    option_or (first_position (is_keyed name) entries)
    (if is_word field (codes "crossref") then index_in_any_case entries name else None)

-- the new key of the entry that a name in a field means, if the entry gets one
abbrev pub new_reference : List EntryReading → (ℕ → Option (List ℕ)) → List ℕ → List ℕ → Option (List ℕ)
new_reference entries keys field name = option_and_then keys (meant_index entries field name)

-- ---- references with new names

-- the elements of a comma list, with the white space around them
abbrev pub elements_of : List ℕ → List (List ℕ)
elements_of list = slice_split (λ c. c == char.comma) list

-- whether an element of a comma list gets a new name
abbrev pub is_renamed : (List ℕ → Option (List ℕ)) → List ℕ → Bool
is_renamed names element = is_some (names (trim element))

-- the first element of a comma list that gets a new name, without the white space around it
abbrev pub first_renamed : (List ℕ → Option (List ℕ)) → List ℕ → Option (List ℕ)
first_renamed names list = option_map trim (find (is_renamed names) (elements_of list))

-- a text with the white space at the ends of an element
abbrev pub between_white : List ℕ → List ℕ → List ℕ
between_white new element = take (length element - length (trim_start element)) element ++ new ++ drop (length (trim_end element)) element

-- an element, with a new name if it gets one
abbrev pub renamed_element : (List ℕ → Option (List ℕ)) → List ℕ → List ℕ
renamed_element names element = option_map_or (λ new. between_white new element) (names (trim element)) element

-- a comma list with the new names of its elements
abbrev pub renamed_list : (List ℕ → Option (List ℕ)) → List ℕ → List ℕ
renamed_list names list = join_by (renamed_element names) (char.comma ∷ []) (elements_of list)

-- a comma list with the new names of its elements, or `None` if no element gets a new name
abbrev pub renamed_where_listed : (List ℕ → Option (List ℕ)) → List ℕ → Option (List ℕ)
renamed_where_listed names list = if list_any (is_renamed names) (elements_of list) then Some (renamed_list names list) else None

-- the new text of a value, if it is one literal with an element that gets a new name
abbrev pub renamed_text : (List ℕ → Option (List ℕ)) → List Piece → Option (List ℕ)
renamed_text names [] = None
renamed_text names (abbreviation p ∷ rest) = None
renamed_text names (literal p ∷ []) = renamed_where_listed names p.text
renamed_text names (literal p ∷ other ∷ rest) = None

-- the new text of the value of a reference field, if it is one literal with an element that gets a new name
abbrev pub renamed_value : (List ℕ → List ℕ → Option (List ℕ)) → FieldReading → Option (List ℕ)
renamed_value names f = if is_reference_field f.name.text then renamed_text (names f.name.text) f.value.pieces else None

-- ---- the changes

-- a change of one part of a document: a new key, or a new value of a field
pub data Change : Type 0 where
  key : Part → List ℕ → Change
  value : FieldReading → List ℕ → Change

-- the edit that makes a change
abbrev pub change_edit : List ℕ → Change → Edit
change_edit text (Change.key p new) = record { start = p.start; end = p.end; bytes = new }
change_edit text (Change.value f new) = value_edit text f new

-- the new key or value of a change can be written to a file
abbrev pub CanBeMade : Change → Type 0
CanBeMade (Change.key p new) = CanBeKey new
CanBeMade (Change.value f new) = IsParts new

-- the change of a field to a new value, if there is one
abbrev pub value_change : FieldReading → Option (List ℕ) → List Change
value_change f None = []
value_change f (Some new) = Change.value f new ∷ []

-- the change of each reference field whose value is one literal with an element that gets a new name
abbrev pub reference_changes : (List ℕ → List ℕ → Option (List ℕ)) → List FieldReading → List Change
reference_changes names fields = flat_map (λ f. value_change f (renamed_value names f)) fields

-- the change of an entry's key to a new one, if there is one
abbrev pub key_change : Option (List ℕ) → EntryReading → List Change
key_change None e = []
key_change (Some new) e = Change.key e.key new ∷ []

-- the changes of entries that give them new keys by their indices, and new names to the elements of their references. The first entry has
-- the given index
abbrev pub renaming : (List ℕ → List ℕ → Option (List ℕ)) → (ℕ → Option (List ℕ)) → ℕ → List EntryReading → List Change
renaming names keys index [] = []
renaming names keys index (e ∷ rest) =
    (key_change (keys index) e ++ reference_changes names e.fields) ++ renaming names keys (suc index) rest

-- the changes that give entries new keys, also in the references to them in values that are one literal
abbrev pub key_renaming : (ℕ → Option (List ℕ)) → List EntryReading → List Change
key_renaming keys entries = renaming (new_reference entries keys) keys 0 entries

-- the document after changes, made from the last to the first, so that the changes still to be made keep their byte offsets
pub data Changed (d : Document) : List Change → Document → Type 0 where
  none : Changed d [] d
  key : {after : Document} {changes : List Change} {p : Part} {new : List ℕ} {e : EntryReading} → (k : ℕ)
      → Changed d changes after → slice_get after.says.entries k ≡ Some e → e.key ≡ p
      → Changed d (Change.key p new ∷ changes) (entry_renamed after k e new)
  value : {after : Document} {changes : List Change} {f : FieldReading} {new : List ℕ} {e : EntryReading} → (k j : ℕ)
      → Changed d changes after → slice_get after.says.entries k ≡ Some e → slice_get e.fields j ≡ Some f
      → Changed d (Change.value f new ∷ changes) (value_changed after k e j f new)

-- ---- new keys of entries

-- an entry may get a new key: it has a key, and the new one is allowed
pub record MayGetKey (e : EntryReading) (new : List ℕ) : Type 0 where
  pub filled : 0 < length e.key.text
  pub allowed : CanBeNewKey new

-- each entry that gets a new key may get it
abbrev pub MayGetNewKeys : List EntryReading → (ℕ → Option (List ℕ)) → Type 0
MayGetNewKeys entries keys =
    (k : ℕ) (e : EntryReading) (new : List ℕ) → slice_get entries k ≡ Some e → keys k ≡ Some new → MayGetKey e new

-- an entry gets a new key that it may not get
pub record IsNoNewKey (entries : List EntryReading) (keys : ℕ → Option (List ℕ)) : Type 0 where
  pub index : ℕ
  pub entry : EntryReading
  pub new : List ℕ
  pub here : slice_get entries index ≡ Some entry
  pub gets : keys index ≡ Some new
  pub cant : MayGetKey entry new → ⊥

-- entries may get new keys, and none of these is taken
pub record CanGetKeys (entries : List EntryReading) (keys : ℕ → Option (List ℕ)) : Type 0 where
  pub may : MayGetNewKeys entries keys
  pub free : IsNewKeyTaken entries keys → ⊥

-- the outcome of giving entries new keys by their indices
pub data KeysRenamed (d : Document) (keys : ℕ → Option (List ℕ)) : Document → Type 0 where
  renamed : {after : Document} → CanGetKeys d.says.entries keys → Changed d (key_renaming keys d.says.entries) after
      → KeysRenamed d keys after

-- entries can get new keys, but a reference to one of these can't be written in braces
pub record CantBeWritten (d : Document) (keys : ℕ → Option (List ℕ)) : Type 0 where
  pub can : CanGetKeys d.says.entries keys
  pub cant : AllByRecursion CanBeMade (key_renaming keys d.says.entries) → ⊥

-- for each error, the condition under which giving entries new keys may be refused with it
abbrev pub KeysAreRefused : Document → (ℕ → Option (List ℕ)) → EditError → Type 0
KeysAreRefused d keys UnknownKey = ⊥
KeysAreRefused d keys KeyIsThere = IsNewKeyTaken d.says.entries keys
KeysAreRefused d keys NotAKey = IsNoNewKey d.says.entries keys
KeysAreRefused d keys NotAName = ⊥
KeysAreRefused d keys NotInBraces = CantBeWritten d keys
KeysAreRefused d keys NotBare = ⊥
KeysAreRefused d keys DefinitionIsThere = ⊥
KeysAreRefused d keys NoFieldLeft = ⊥
KeysAreRefused d keys OutOfMemory = ⊤

-- the new keys of a list, by the indices of the entries that get them
abbrev pub given_keys : List (Option (Bor (List ℕ))) → ℕ → Option (List ℕ)
given_keys keys index = option_and_then (option_map (λ k. k.now)) (slice_get keys index)

-- ---- one new key

-- only the entry at one index gets a new key
abbrev pub only : ℕ → List ℕ → ℕ → Option (List ℕ)
only one new index = if index == one then Some new else None

-- the document after a key is renamed. If the new key is the old one, nothing changes. Otherwise the first entry with the old key gets
-- the new one.
pub data KeyRenamed (d : Document) (old new : List ℕ) : Document → Type 0 where
  same : {k : ℕ} {e : EntryReading} → HasEntry d old k e → bytes_eq old new ≡ true → KeyRenamed d old new d
  renamed : {k : ℕ} {e : EntryReading} {after : Document} → HasEntry d old k e → bytes_eq old new ≡ false
      → KeysRenamed d (only k new) after → KeyRenamed d old new after

-- giving the first entry with the key `old` another key, `new`, may be refused with this error
pub record IsKeyRefused (d : Document) (old new : List ℕ) (error : EditError) : Type 0 where
  pub index : ℕ
  pub entry : EntryReading
  pub has : HasEntry d old index entry
  pub other : bytes_eq old new ≡ false
  pub refused : KeysAreRefused d (only index new) error

-- for each error, the condition under which renaming a key may be refused with it
abbrev pub RenameIsRefused : Document → List ℕ → List ℕ → EditError → Type 0
RenameIsRefused d old new UnknownKey = first_position (is_keyed old) d.says.entries ≡ None
RenameIsRefused d old new KeyIsThere = IsKeyRefused d old new KeyIsThere
RenameIsRefused d old new NotAKey = IsKeyRefused d old new NotAKey
RenameIsRefused d old new NotAName = ⊥
RenameIsRefused d old new NotInBraces = IsKeyRefused d old new NotInBraces
RenameIsRefused d old new NotBare = ⊥
RenameIsRefused d old new DefinitionIsThere = ⊥
RenameIsRefused d old new NoFieldLeft = ⊥
RenameIsRefused d old new OutOfMemory = ⊤
