-- Meaning: words of public contracts.
-- Setting a field of an entry: each field with the name gets the value, or else a new field comes first.
use Rattle.std.specs.Prelude.{◌≡◌, ℕ, ◌-◌, Bool, true, false, ◌&&◌, ◌||◌, not, if◌then◌else◌, bytes_eq, is_some, nat_lt, List, [], ◌∷◌, ◌++◌, map, take, drop, codes, None, ⊤, slice_set}
use Rattle.std.specs.Char.{is_ascii_digit, is_ascii_whitespace, is_whitespace}
use Rattle.std.specs.List.{list_all, list_any, suffix_len}
use Rattle.bib_text.specs.Braces.{IsParts}
use Rattle.bib_text.specs.Characters as char
use Rattle.bib_text.specs.Places.{CharAt, Longest, Place, place}
use Rattle.bib_syntax.specs.Grammar.{is_word}
use Rattle.bib_syntax.specs.Reading.{EntryReading, FieldReading, Piece}
use Rattle.bib_syntax.specs.Reading.Piece.{abbreviation, literal}
use Rattle.bib_tables.specs.Months.{month_of_abbreviation}
use Rattle.bib_queries.specs.Balance.{IsBalanced}
use Rattle.edit_entries.specs.Changes.{EntryChange, FieldChange, NewField, NewValue, braced_value, edits_of_entry, entry_changed, field_reading, new_field_text}
use Rattle.edit_entries.specs.Documents.{CanBeName, Document, HasEntry, HasField, first_position, has_name, is_keyed, is_value, text_at}
use Rattle.edit_entries.specs.Edits.{edited, edited_all, placeless}
use Rattle.edit_entries.specs.Layouts.{new_sign}
use Rattle.edit_entries.specs.declared.errors.EditError.{EditError}
use Rattle.edit_entries.specs.declared.field_value.FieldValue.{FieldValue}
use Rattle.edit_entries.specs.declared.field_value.FieldValue.TheVariants.{Bare, Text}
use Rattle.edit_entries.specs.declared.errors.EditError.TheVariants.{UnknownKey, KeyIsThere, NotAKey, NotAName, NotInBraces, NotBare, DefinitionIsThere, NoFieldLeft, OutOfMemory}

-- ---- values

-- a text can be a value in braces. For the file grammar, a backslash escapes the next character. For BibTeX, Biber and bibtool, it
-- escapes nothing
pub record CanBeValue (text : List ℕ) : Type 0 where
  pub braced : IsParts text
  pub balanced : IsBalanced text

-- whether a text begins with an ASCII digit
abbrev pub begins_with_digit : List ℕ → Bool
begins_with_digit [] = false
begins_with_digit (b ∷ bs) = is_ascii_digit b

-- a text can be the name of a new field, also for BibTeX and Biber, which read no name that begins with an ASCII digit
pub record CanBeNewName (text : List ℕ) : Type 0 where
  pub name : CanBeName text
  pub no_digit : begins_with_digit text ≡ false

-- a value that a field gets: a text, written in braces, or a number or the name of an abbreviation, written as it is
pub data SetValue : Type 0 where
  plain_text : List ℕ → SetValue
  bare_text : List ℕ → SetValue

-- the value that a call passes
abbrev pub value_of : FieldValue → SetValue
value_of (Text text) = SetValue.plain_text text.now
value_of (Bare text) = SetValue.bare_text text.now

-- whether a text consists of one or more ASCII digits
abbrev pub is_bare_number : List ℕ → Bool
is_bare_number [] = false
is_bare_number (b ∷ bs) = list_all is_ascii_digit (b ∷ bs)

-- the value as bytes, with the pieces that they are parsed as
abbrev pub new_value : SetValue → NewValue
new_value (SetValue.plain_text text) = braced_value text
new_value (SetValue.bare_text text) = record {
  bytes = text;
  pieces = (if is_bare_number text then literal (text_at 0 text) else abbreviation (text_at 0 text)) ∷ [];
}

-- whether a piece is a literal with this number, or this abbreviation in any ASCII case
abbrev pub is_bare_piece : List ℕ → Piece → Bool
is_bare_piece text (literal p) = is_bare_number text && bytes_eq p.text text
is_bare_piece text (abbreviation p) = is_word p.text text

-- whether pieces are this value
abbrev pub is_same_value : SetValue → List Piece → Bool
is_same_value (SetValue.plain_text text) pieces = is_value text pieces
is_same_value (SetValue.bare_text text) [] = false
is_same_value (SetValue.bare_text text) (p ∷ []) = is_bare_piece text p
is_same_value (SetValue.bare_text text) (p ∷ other ∷ rest) = false

-- whether a definition has this name, in any ASCII case, and begins before this byte offset
abbrev pub is_defined_before : ℕ → List ℕ → FieldReading → Bool
is_defined_before at name f = has_name name f && nat_lt f.name.start at

-- whether a name is a month's abbreviation, or is defined before a byte offset, in any ASCII case. BibTeX reads definitions and uses in
-- order; its styles define the months
abbrev pub is_defined : List FieldReading → ℕ → List ℕ → Bool
is_defined definitions at name =
    is_some (month_of_abbreviation name) || list_any (is_defined_before at name) definitions

-- a text can be a value without braces at a byte offset. It is a number, or an abbreviation that doesn't begin with an ASCII digit. The
-- abbreviation is that of a month, or is defined before the offset
pub data IsBare (definitions : List FieldReading) (at : ℕ) (text : List ℕ) : Type 0 where
  number : is_bare_number text ≡ true → IsBare definitions at text
  named : CanBeNewName text → is_defined definitions at text ≡ true → IsBare definitions at text

-- a value can be written at a byte offset
abbrev pub IsWritableAt : List FieldReading → ℕ → SetValue → Type 0
IsWritableAt definitions at (SetValue.plain_text text) = CanBeValue text
IsWritableAt definitions at (SetValue.bare_text text) = IsBare definitions at text

-- the error of a value that can't be written
abbrev pub unfit_error : SetValue → EditError
unfit_error (SetValue.plain_text text) = NotInBraces
unfit_error (SetValue.bare_text text) = NotBare

-- whether a field has this name, in any ASCII case, and another value than this one
abbrev pub has_other_value : List ℕ → SetValue → FieldReading → Bool
has_other_value name value f = has_name name f && not (is_same_value value f.value.pieces)

-- ---- the change

-- the change of a field that gets this value if it has this name and another value
abbrev pub set_change : List ℕ → SetValue → FieldReading → FieldChange
set_change name value f = if has_other_value name value f then FieldChange.valued (new_value value) else FieldChange.kept

-- the change of an entry in which each field with this name gets this value. BibTeX reads the first of these fields, Biber and this
-- library the last
abbrev pub values_set : List ℕ → SetValue → EntryReading → EntryChange
values_set name value e = record { kind = None; fields = map (set_change name value) e.fields }

-- the ASCII white space directly before a byte offset of a text
abbrev pub white_before : List ℕ → ℕ → List ℕ
white_before text at = drop (at - suffix_len is_ascii_whitespace (take at text)) (take at text)

-- a new field with this name and this value
abbrev pub field_with_value : List ℕ → SetValue → NewField
field_with_value name value = record { name = name; value = new_value value }

-- the change of an entry with a new field before these. It gets the white space before the first one, and the layout of their equals
-- signs
abbrev pub field_put : List ℕ → List ℕ → SetValue → FieldReading → List FieldReading → EntryChange
field_put text name value first others = record {
  kind = None;
  fields =
      FieldChange.preceded (field_with_value name value) (new_sign text name first (first ∷ others))
      (white_before text first.name.start) ∷ [];
}

-- an entry of a document has a change, and all else is as it was, except for byte offsets
pub record IsEntryChanged (d : Document) (k : ℕ) (e : EntryReading) (change : EntryChange) (after : Document) : Type 0 where
  pub text : after.text ≡ edited_all (edits_of_entry d.text e change) d.text
  pub alike : placeless after.says ≡ placeless (record d.says { entries = slice_set d.says.entries k (entry_changed e change) })

-- ---- an entry without fields

-- this is the place after the comma that follows an entry's key
pub record IsAfterComma (text : List ℕ) (e : EntryReading) (at : ℕ) : Type 0 where
  pub before : Place
  pub white : Longest is_whitespace (place text e.key.end) before
  pub comma : CharAt before char.comma (place text at)

-- a space, a field, and a comma
abbrev pub only_field_text : List ℕ → SetValue → List ℕ
only_field_text name value = codes " " ++ (new_field_text (field_with_value name value) ++ codes ",")

-- an entry of a document gets its only field, after the comma after its key. All else is as it was, except for byte offsets
pub record IsFirstAdded (d : Document) (k : ℕ) (e : EntryReading) (name : List ℕ) (value : SetValue) (after : Document) : Type 0 where
  pub at : ℕ
  pub comma : IsAfterComma d.text e at
  pub text : after.text ≡ edited (record { start = at; end = at; bytes = only_field_text name value }) d.text
  pub alike : placeless after.says
      ≡ placeless (record d.says {
        entries = slice_set d.says.entries k (record e {
          fields = field_reading
              (field_with_value name value) ∷ [];
        });
      })

-- ---- the outcome

-- the outcome of setting a field of the first entry with this key. A value that the entry doesn't have yet can be written in it, and a
-- new field can have the name.
pub data FieldSet (d : Document) (key name : List ℕ) (value : SetValue) : Document → Type 0 where
  changed : {k : ℕ} {e : EntryReading} {after : Document} → HasEntry d key k e → list_any (has_name name) e.fields ≡ true
      → (list_any (has_other_value name value) e.fields ≡ true → IsWritableAt d.says.abbreviations e.start value)
      → IsEntryChanged d k e (values_set name value e) after → FieldSet d key name value after
  added : {k : ℕ} {e : EntryReading} {first : FieldReading} {others : List FieldReading} {after : Document} → HasEntry d key k e
      → list_any (has_name name) e.fields ≡ false → e.fields ≡ first ∷ others → CanBeNewName name
      → IsWritableAt d.says.abbreviations e.start value
      → IsEntryChanged d k e (field_put d.text name value first others) after → FieldSet d key name value after
  only : {k : ℕ} {e : EntryReading} {after : Document} → HasEntry d key k e → e.fields ≡ [] → CanBeNewName name
      → IsWritableAt d.says.abbreviations e.start value → IsFirstAdded d k e name value after → FieldSet d key name value after

-- in the first entry with this key, the last field with this name has this value
pub record HasValue (d : Document) (key name : List ℕ) (value : SetValue) : Type 0 where
  pub index : ℕ
  pub entry : EntryReading
  pub at : ℕ
  pub field : FieldReading
  pub has : HasEntry d key index entry
  pub named : HasField entry name at field
  pub is : is_same_value value field.value.pieces ≡ true

-- the first entry with this key has a field with this name, and each of its fields with the name has this value
pub record IsSet (d : Document) (key name : List ℕ) (value : SetValue) : Type 0 where
  pub index : ℕ
  pub entry : EntryReading
  pub has : HasEntry d key index entry
  pub named : list_any (has_name name) entry.fields ≡ true
  pub same : list_any (has_other_value name value) entry.fields ≡ false

-- the value can't be written in the first entry with this key. In this entry, no field has the name, or a field with the name has
-- another value. `error` is the error for it
pub record CantBeSet (d : Document) (key name : List ℕ) (value : SetValue) (error : EditError) : Type 0 where
  pub index : ℕ
  pub entry : EntryReading
  pub has : HasEntry d key index entry
  pub because : error ≡ unfit_error value
  pub unfit : IsWritableAt d.says.abbreviations entry.start value → ⊥
  pub new : IsSet d key name value → ⊥

-- for each error, the condition under which setting a field may be refused with it
abbrev pub SetIsRefused : Document → List ℕ → List ℕ → SetValue → EditError → Type 0
SetIsRefused d key name value UnknownKey = first_position (is_keyed key) d.says.entries ≡ None
SetIsRefused d key name value KeyIsThere = ⊥
SetIsRefused d key name value NotAKey = ⊥
SetIsRefused d key name value NotAName = CanBeNewName name → ⊥
SetIsRefused d key name value NotInBraces = CantBeSet d key name value NotInBraces
SetIsRefused d key name value NotBare = CantBeSet d key name value NotBare
SetIsRefused d key name value DefinitionIsThere = ⊥
SetIsRefused d key name value NoFieldLeft = ⊥
SetIsRefused d key name value OutOfMemory = ⊤
