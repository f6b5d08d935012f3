-- Meaning: words of public contracts.
-- The text of a file with its reading, and the outcomes of edits.
use Rattle.std.specs.Prelude.{◌≡◌, ℕ, suc, ◌+◌, ◌<◌, ◌&&◌, Bool, true, false, if◌then◌else◌, List, [], ◌∷◌, ◌++◌, length, map, Option, Some, None, bytes_eq, slice_get, slice_set, take, ⊤}
use Rattle.std.specs.Char.{is_whitespace}
use Rattle.std.specs.List.{list_all, list_any, remove}
use Rattle.std.specs.Option.{option_map_or}
use Rattle.std.specs.Str.{trim_end}
use Rattle.bib_text.specs.Places.{Longest, Run, between, place}
use Rattle.bib_syntax.specs.Characters.{is_key}
use Rattle.bib_text.specs.Characters as char
use Rattle.bib_syntax.specs.Grammar.{Identifier, IsRawReading, is_word, longest}
use Rattle.bib_syntax.specs.Reading.{Part, Piece, FieldReading, EntryReading, FileReading, then}
use Rattle.bib_syntax.specs.Reading.Piece.{literal, abbreviation}
use Rattle.edit_entries.specs.declared.errors.EditError.{EditError}
use Rattle.edit_entries.specs.declared.errors.EditError.TheVariants.{UnknownKey, KeyIsThere, NotAKey, NotAName, NotInBraces, NotBare, DefinitionIsThere, NoFieldLeft, OutOfMemory}
use Rattle.edit_entries.specs.Edits.{Edit, edited, moved_place, moved_piece, moved_field, moved_entry, moved_file}
use Rattle.edit_entries.specs.LineEnds.{line_end_of}
use Rattle.edit_entries.specs.NewNames.{HaveNewKeys, shares_name}

-- a text, and a reading
pub record Document : Type 0 where
  pub text : List ℕ
  pub says : FileReading

-- the reading is that of the text
abbrev pub IsDocument : Document → Type 0
IsDocument d = IsRawReading d.text d.says

-- whether an entry has this key
abbrev pub is_keyed : List ℕ → EntryReading → Bool
is_keyed key e = bytes_eq e.key.text key

-- whether a field has this name, in any ASCII case
abbrev pub has_name : List ℕ → FieldReading → Bool
has_name name f = is_word f.name.text name

-- the next index, if there is an index
abbrev pub next_index : Option ℕ → Option ℕ
next_index (Some i) = Some (suc i)
next_index None = None

-- the first index at which a test is passed
abbrev pub first_position : {A : Type 0} → (A → Bool) → List A → Option ℕ
first_position test [] = None
first_position test (x ∷ xs) = if test x then Some 0 else next_index (first_position test xs)

-- the next index if there is an index, or else 0 if a test is passed
abbrev pub or_first : Bool → Option ℕ → Option ℕ
or_first passes (Some i) = Some (suc i)
or_first passes None = if passes then Some 0 else None

-- the last index at which a test is passed
abbrev pub last_position : {A : Type 0} → (A → Bool) → List A → Option ℕ
last_position test [] = None
last_position test (x ∷ xs) = or_first (test x) (last_position test xs)

-- `e` is the first entry with this key, and `k` is its index
pub record HasEntry (d : Document) (key : List ℕ) (k : ℕ) (e : EntryReading) : Type 0 where
  pub first : first_position (is_keyed key) d.says.entries ≡ Some k
  pub here : slice_get d.says.entries k ≡ Some e

-- `f` is the last field of an entry with this name, in any ASCII case, and `j` is its index
pub record HasField (e : EntryReading) (name : List ℕ) (j : ℕ) (f : FieldReading) : Type 0 where
  pub last : last_position (has_name name) e.fields ≡ Some j
  pub here : slice_get e.fields j ≡ Some f

-- a text between two braces
abbrev pub in_braces : List ℕ → List ℕ
in_braces text = char.open_brace ∷ (text ++ char.close_brace ∷ [])

-- the bytes of a value, from its start to its end
abbrev pub value_stretch : List ℕ → FieldReading → List ℕ
value_stretch text f = between (place text f.value.start) (place text f.value.end)

-- the edit that replaces a field's value by a text in braces, without the white space after it
abbrev pub value_edit : List ℕ → FieldReading → List ℕ → Edit
value_edit text f value = record {
  start = f.value.start;
  end = f.value.start + length (trim_end (value_stretch text f));
  bytes = in_braces value;
}

-- the part with this text at a byte offset
abbrev pub text_at : ℕ → List ℕ → Part
text_at start text = record { text = text; start = start; end = start + length text }

-- a field with a text in braces as its value, at the same byte offset
abbrev pub with_value : List ℕ → FieldReading → FieldReading
with_value value f = record f { value = record f.value { pieces = literal (text_at (f.value.start + 1) value) ∷ [] } }

-- the document after an edit in one entry: byte offsets are moved, and the entry is replaced by another one
abbrev pub entry_edited : Document → Edit → ℕ → EntryReading → Document
entry_edited d edit k e = record {
  text = edited edit d.text;
  says = record (moved_file (moved_place edit) d.says) { entries = slice_set (map (moved_entry (moved_place edit)) d.says.entries) k e };
}

-- the document after an edit in one field of an entry
abbrev pub field_edited : Document → Edit → ℕ → EntryReading → ℕ → FieldReading → Document
field_edited d edit k e j f =
    entry_edited d edit k
    (record (moved_entry (moved_place edit) e)
    { fields = slice_set (map (moved_field (moved_place edit)) e.fields) j f })

-- the document with another value of a field
abbrev pub value_changed : Document → ℕ → EntryReading → ℕ → FieldReading → List ℕ → Document
value_changed d k e j f value =
    let edit = value_edit d.text f value in
    field_edited d edit k e j (with_value value (moved_field (moved_place edit) f))

-- whether a value is one literal with this text
abbrev pub is_value : List ℕ → List Piece → Bool
is_value value [] = false
is_value value (abbreviation p ∷ rest) = false
is_value value (literal p ∷ []) = bytes_eq p.text value
is_value value (literal p ∷ other ∷ rest) = false

-- a text can be a field's name: it is an identifier
abbrev pub CanBeName : List ℕ → Type 0
CanBeName text = (p : Part) × Identifier longest (place text 0) p (place text (length text))

-- the document without an entry, from its at sign up to a byte offset after it
abbrev pub entry_removed : Document → ℕ → EntryReading → ℕ → Document
entry_removed d k e at =
    let edit : Edit = record { start = e.start; end = at; bytes = [] } in
    record {
      text = edited edit d.text;
      says = record (moved_file (moved_place edit) d.says) { entries = remove (map (moved_entry (moved_place edit)) d.says.entries) k };
    }

-- the outcome of removing an entry: it is removed with the white space after it
pub data EntryRemoved (d : Document) (key : List ℕ) : Document → Type 0 where
  removed : {k at : ℕ} {e : EntryReading} → HasEntry d key k e
      → Longest is_whitespace (place d.text (e.end + 1)) (place d.text at) → EntryRemoved d key (entry_removed d k e at)

-- for each error, the condition under which removing an entry may be refused with it
abbrev pub EntryIsRefused : Document → List ℕ → EditError → Type 0
EntryIsRefused d key UnknownKey = first_position (is_keyed key) d.says.entries ≡ None
EntryIsRefused d key KeyIsThere = ⊥
EntryIsRefused d key NotAKey = ⊥
EntryIsRefused d key NotAName = ⊥
EntryIsRefused d key NotInBraces = ⊥
EntryIsRefused d key NotBare = ⊥
EntryIsRefused d key DefinitionIsThere = ⊥
EntryIsRefused d key NoFieldLeft = ⊥
EntryIsRefused d key OutOfMemory = ⊤

-- the byte offset of the next field, or of the closing brace if there is none
abbrev pub field_limit : EntryReading → ℕ → ℕ
field_limit e j = option_map_or (λ f. f.name.start) (slice_get e.fields (suc j)) e.end

-- the edit that removes a field, up to the next one or the closing brace
abbrev pub field_edit : EntryReading → ℕ → FieldReading → Edit
field_edit e j f = record { start = f.name.start; end = field_limit e j; bytes = [] }

-- whether there are fields, and each of them has this name
abbrev pub have_only : List ℕ → List FieldReading → Bool
have_only name fields = list_any (has_name name) fields && list_all (has_name name) fields

-- the first entry with this key has at least one field, and each of its fields has this name, in any ASCII case
pub record HasOnlyFields (d : Document) (key name : List ℕ) : Type 0 where
  pub index : ℕ
  pub entry : EntryReading
  pub has : HasEntry d key index entry
  pub only : have_only name entry.fields ≡ true

-- for each error, the condition under which unsetting a field may be refused with it
abbrev pub UnsetIsRefused : Document → List ℕ → List ℕ → EditError → Type 0
UnsetIsRefused d key name UnknownKey = first_position (is_keyed key) d.says.entries ≡ None
UnsetIsRefused d key name KeyIsThere = ⊥
UnsetIsRefused d key name NotAKey = ⊥
UnsetIsRefused d key name NotAName = ⊥
UnsetIsRefused d key name NotInBraces = ⊥
UnsetIsRefused d key name NotBare = ⊥
UnsetIsRefused d key name DefinitionIsThere = ⊥
UnsetIsRefused d key name NoFieldLeft = HasOnlyFields d key name
UnsetIsRefused d key name OutOfMemory = ⊤

-- a text can be a key: it has at least one character, and only characters of keys
pub record CanBeKey (text : List ℕ) : Type 0 where
  pub some : 0 < length text
  pub run : Run is_key (place text 0) (place text (length text))

-- the document with another key of an entry
abbrev pub entry_renamed : Document → ℕ → EntryReading → List ℕ → Document
entry_renamed d k e key =
    let edit : Edit = record { start = e.key.start; end = e.key.end; bytes = key } in
    entry_edited d edit k (record (moved_entry (moved_place edit) e) { key = text_at (moved_place edit e.key.start) key })

-- the document of two texts with the line end of the first one between them
abbrev pub joined_documents : Document → Document → Document
joined_documents d more = record {
  text = d.text ++ (line_end_of d.text ++ more.text);
  says = (then) d.says (moved_file (λ at. at + (length d.text + length (line_end_of d.text))) more.says);
}

-- no entry of the second document shares a name, in any ASCII case, with an entry of the first or an earlier entry of the second
abbrev pub SharesNoName : Document → Document → Type 0
SharesNoName d more =
    (k : ℕ) (e : EntryReading) → slice_get more.says.entries k ≡ Some e
    → shares_name (d.says.entries ++ take k more.says.entries) e ≡ false

-- pieces without positions
abbrev pub placeless_pieces : List Piece → List Piece
placeless_pieces pieces = map (moved_piece (λ at. 0)) pieces

-- two fields have the same value, except for positions: literals and abbreviations with the same texts
abbrev pub HaveSameValue : FieldReading → FieldReading → Type 0
HaveSameValue f g = placeless_pieces f.value.pieces ≡ placeless_pieces g.value.pieces

-- each abbreviation that two lists of definitions define, in any ASCII case, has one value in both
abbrev pub AgreeOnDefinitions : List FieldReading → List FieldReading → Type 0
AgreeOnDefinitions definitions others =
    (i j : ℕ) (f g : FieldReading) → slice_get definitions i ≡ Some f → slice_get others j ≡ Some g
    → has_name f.name.text g ≡ true → HaveSameValue f g

-- the outcome of adding a document
pub data EntriesAdded (d more : Document) : Document → Type 0 where
  added : SharesNoName d more → HaveNewKeys more.says.entries
      → AgreeOnDefinitions d.says.abbreviations more.says.abbreviations
      → EntriesAdded d more (joined_documents d more)

-- for each error, the condition under which adding a document may be refused with it
abbrev pub EntriesAreRefused : Document → Document → EditError → Type 0
EntriesAreRefused d more UnknownKey = ⊥
EntriesAreRefused d more KeyIsThere = SharesNoName d more → ⊥
EntriesAreRefused d more NotAKey = HaveNewKeys more.says.entries → ⊥
EntriesAreRefused d more NotAName = ⊥
EntriesAreRefused d more NotInBraces = ⊥
EntriesAreRefused d more NotBare = ⊥
EntriesAreRefused d more DefinitionIsThere = AgreeOnDefinitions d.says.abbreviations more.says.abbreviations → ⊥
EntriesAreRefused d more NoFieldLeft = ⊥
EntriesAreRefused d more OutOfMemory = ⊤

-- a text is that of a document with this outcome, and has its reading
pub record IsEdited (Outcome : Document → Type 0) (text : List ℕ) : Type 0 where
  pub document : Document
  pub outcome : Outcome document
  pub is : text ≡ document.text
  pub read : IsDocument document
