-- Meaning: words of public contracts.
-- Changes of entries: new names of their types, and changes of their fields. The text with these changes, and its reading.
use Rattle.std.specs.Prelude.{◌≡◌, ℕ, ◌+◌, List, [], ◌∷◌, ◌++◌, codes, length, map, Option, Some, None}
use Rattle.std.specs.Char.{is_whitespace}
use Rattle.std.specs.List.{flat_map}
use Rattle.std.specs.Str.{trim_end}
use Rattle.bib_text.specs.Characters as char
use Rattle.bib_text.specs.Places.{Run, place}
use Rattle.bib_syntax.specs.Grammar.{IsRawReading}
use Rattle.bib_syntax.specs.Reading.{Part, Piece, FieldReading, EntryReading, FileReading}
use Rattle.bib_syntax.specs.Reading.Piece.{literal}
use Rattle.edit_entries.specs.Documents.{Document, in_braces, text_at, value_stretch}
use Rattle.edit_entries.specs.Edits.{Edit, edited_all, placeless}

-- a text has this reading, except for byte offsets
pub record IsReadPlaceless (says : FileReading) (text : List ℕ) : Type 0 where
  pub tells : FileReading
  pub read : IsRawReading text tells
  pub alike : placeless tells ≡ placeless says

-- ---- the changes

-- a new value: its bytes, and the pieces that they are parsed as
pub record NewValue : Type 0 where
  pub bytes : List ℕ
  pub pieces : List Piece

-- a new field: its name and its value
pub record NewField : Type 0 where
  pub name : List ℕ
  pub value : NewValue

-- a text in braces as a new value
abbrev pub braced_value : List ℕ → NewValue
braced_value text = record { bytes = in_braces text; pieces = literal (text_at 1 text) ∷ [] }

-- a new field with a text in braces as its value
abbrev pub braced_field : List ℕ → List ℕ → NewField
braced_field name text = record { name = name; value = braced_value text }

-- the change of a field: it is kept, preceded by a new field, renamed, given a new value, replaced by new fields, or removed.
-- The first text of `preceded` is between the new name and its value. The function of `replaced` returns this text for each new name. The
-- last text of both is white space. A comma and this white space follow each new field, except the last one of `replaced`.
pub data FieldChange : Type 0 where
  kept : FieldChange
  preceded : NewField → List ℕ → List ℕ → FieldChange
  renamed : List ℕ → FieldChange
  valued : NewValue → FieldChange
  replaced : (List ℕ → List ℕ) → NewField → List NewField → List ℕ → FieldChange
  removed : FieldChange

-- the change of an entry: the new name of its type, if that changes, and the changes of its fields, in order. Fields after the last
-- change are kept
pub record EntryChange : Type 0 where
  pub kind : Option (List ℕ)
  pub fields : List FieldChange

-- ---- the edits

-- the byte offset at which a value ends, without the white space after it
abbrev pub value_end : List ℕ → FieldReading → ℕ
value_end text f = f.value.start + length (trim_end (value_stretch text f))

-- only white space is between `value_end` and the end of the value's span
abbrev pub IsTrimmed : List ℕ → FieldReading → Type 0
IsTrimmed text f = Run is_whitespace (place text (value_end text f)) (place text f.value.end)

-- the text of a new field with this text between its name and its value
abbrev pub signed_field_text : List ℕ → NewField → List ℕ
signed_field_text sign n = n.name ++ (sign ++ n.value.bytes)

-- an equals sign with one space before and after it, for each name
abbrev pub spaced_sign : List ℕ → List ℕ
spaced_sign name = codes " = "

-- the text of a new field
abbrev pub new_field_text : NewField → List ℕ
new_field_text n = signed_field_text (codes " = ") n

-- the text of a new field; the function returns the text between its name and its value
abbrev pub field_text_by : (List ℕ → List ℕ) → NewField → List ℕ
field_text_by sign n = signed_field_text (sign n.name) n

-- the text of new fields after another one, with a comma and white space before each
abbrev pub more_field_texts : (List ℕ → List ℕ) → List ℕ → List NewField → List ℕ
more_field_texts sign white fields = flat_map (λ n. char.comma ∷ (white ++ field_text_by sign n)) fields

-- the text of a new field before another one, with a comma and white space after it
abbrev pub field_before : NewField → List ℕ → List ℕ → List ℕ
field_before n sign white = signed_field_text sign n ++ char.comma ∷ white

-- the edit that puts bytes before a field's name
abbrev pub name_edit : FieldReading → List ℕ → Edit
name_edit f lead = record { start = f.name.start; end = f.name.end; bytes = lead ++ f.name.text }

-- the edit that replaces a part of a text, if there is a new text
abbrev pub part_edits : Part → Option (List ℕ) → List Edit
part_edits p None = []
part_edits p (Some new) = record { start = p.start; end = p.end; bytes = new } ∷ []

-- the edit that replaces a field's value, without the white space after it
abbrev pub value_stretch_edit : List ℕ → FieldReading → List ℕ → Edit
value_stretch_edit text f bytes = record { start = f.value.start; end = value_end text f; bytes = bytes }

-- the edit that replaces a field, without the white space after its value
abbrev pub field_stretch : List ℕ → FieldReading → List ℕ → Edit
field_stretch text f bytes = record { start = f.name.start; end = value_end text f; bytes = bytes }

-- the edit that removes a field, up to the next field; none if there is no next field
abbrev pub removal_edits : FieldReading → List FieldReading → List Edit
removal_edits f [] = []
removal_edits f (g ∷ gs) = record { start = f.name.start; end = g.name.start; bytes = [] } ∷ []

-- the edits of a field, by its change; `following` are the fields after it
abbrev pub edits_of_field : List ℕ → FieldReading → List FieldReading → FieldChange → List Edit
edits_of_field text f following FieldChange.kept = []
edits_of_field text f following (FieldChange.preceded n sign white) = name_edit f (field_before n sign white) ∷ []
edits_of_field text f following (FieldChange.renamed name) = record { start = f.name.start; end = f.name.end; bytes = name } ∷ []
edits_of_field text f following (FieldChange.valued new) = value_stretch_edit text f new.bytes ∷ []
edits_of_field text f following (FieldChange.replaced sign n ns white) =
    field_stretch text f (field_text_by sign n ++ more_field_texts sign white ns) ∷ []
edits_of_field text f following FieldChange.removed = removal_edits f following

-- the edits of fields, by their changes
abbrev pub edits_of_fields : List ℕ → List FieldReading → List FieldChange → List Edit
edits_of_fields text [] changes = []
edits_of_fields text (f ∷ fs) [] = []
edits_of_fields text (f ∷ fs) (change ∷ changes) = edits_of_field text f fs change ++ edits_of_fields text fs changes

-- the edits of an entry: of the name of its type, and of its fields
abbrev pub edits_of_entry : List ℕ → EntryReading → EntryChange → List Edit
edits_of_entry text e change = part_edits e.kind change.kind ++ edits_of_fields text e.fields change.fields

-- the edits of entries, by their changes
abbrev pub edits_of_entries : (EntryReading → EntryChange) → List ℕ → List EntryReading → List Edit
edits_of_entries changes text entries = flat_map (λ e. edits_of_entry text e (changes e)) entries

-- a document's text with the changes of its entries
abbrev pub text_changed : (EntryReading → EntryChange) → Document → List ℕ
text_changed changes d = edited_all (edits_of_entries changes d.text d.says.entries) d.text

-- ---- the reading

-- a part with a new text, if there is one
abbrev pub with_other_text : Part → Option (List ℕ) → Part
with_other_text p None = p
with_other_text p (Some new) = record p { text = new }

-- the reading of a new field, except for byte offsets
abbrev pub field_reading : NewField → FieldReading
field_reading n = record { name = text_at 0 n.name; value = record { pieces = n.value.pieces; start = 0; end = 0 } }

-- the fields that a field becomes, by its change
abbrev pub field_changed : FieldReading → FieldChange → List FieldReading
field_changed f FieldChange.kept = f ∷ []
field_changed f (FieldChange.preceded n sign white) = field_reading n ∷ f ∷ []
field_changed f (FieldChange.renamed name) = (record f { name = record f.name { text = name } }) ∷ []
field_changed f (FieldChange.valued new) = (record f { value = record f.value { pieces = new.pieces } }) ∷ []
field_changed f (FieldChange.replaced sign n ns white) = map field_reading (n ∷ ns)
field_changed f FieldChange.removed = []

-- the fields that fields become, by their changes
abbrev pub fields_changed : List FieldReading → List FieldChange → List FieldReading
fields_changed [] changes = []
fields_changed (f ∷ fs) [] = f ∷ fs
fields_changed (f ∷ fs) (change ∷ changes) = field_changed f change ++ fields_changed fs changes

-- an entry with its change
abbrev pub entry_changed : EntryReading → EntryChange → EntryReading
entry_changed e change = record e { kind = with_other_text e.kind change.kind; fields = fields_changed e.fields change.fields }

-- the reading of a file, with the changes of its entries
abbrev pub file_changed : (EntryReading → EntryChange) → FileReading → FileReading
file_changed changes says = record says { entries = map (λ e. entry_changed e (changes e)) says.entries }

-- a text is a document's with the changes of its entries, and parses to its reading with these changes, except for byte offsets
pub record IsChanged (changes : EntryReading → EntryChange) (d : Document) (text : List ℕ) : Type 0 where
  pub is : text ≡ text_changed changes d
  pub read : IsReadPlaceless (file_changed changes d.says) text
