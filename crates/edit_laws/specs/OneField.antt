-- Meaning: words of public contracts.
-- Files that differ in one field of one entry: their entries before inheriting, and their bibliographies.
use Rattle.std.specs.Prelude.{◌≡◌, ℕ, ◌≤◌, false, bytes_eq, List, map, slice_get, slice_set, Option, Some, None, if◌then◌else◌}
use Rattle.std.specs.FinMap as by_name
use Rattle.std.specs.Str.{chars}
use Rattle.bib_chunks.specs.Styled.{Atom, styled}
use Rattle.bib_chunks.specs.declared.chunk.Chunk.{Chunk}
use Rattle.bib_collections.specs.Graph.{Leads, refs_of}
use Rattle.bib_contents.specs.Contents.{IsContent}
use Rattle.bib_entry.specs.declared.entry.Entry.{Entry}
use Rattle.bib_file_entries.specs.Bibliography.{Bibliography, index_of}
use Rattle.bib_inheritance.specs.EntryTexts.{EntryTexts}
use Rattle.bib_inheritance.specs.Inherited.{inherited_field}
use Rattle.bib_inheritance.specs.Resolving.{at_index, texts_of_entries, texts_of_entry}
use Rattle.bib_tables.specs.Requirements.{Names, fields}
use Rattle.bib_tables.specs.VerbatimFields.{is_verbatim_field}
use Rattle.bib_text.specs.declared.spanned.Spanned.{Spanned}
use Rattle.biblatex.specs.Resolved.{graph_of}
use Rattle.edit_entries.specs.Setting.{SetValue, is_bare_number}

-- ---- values

-- the text of a value that isn't the name of an abbreviation: a text in braces, or a number
abbrev pub text_of_value : SetValue → Option (List ℕ)
text_of_value (SetValue.plain_text text) = Some text
text_of_value (SetValue.bare_text text) = if is_bare_number text then Some text else None

-- a text can be parsed as the contents of a field with this name
abbrev pub CanBeFieldContents : List ℕ → List ℕ → Type 0
CanBeFieldContents name text = (atoms : List Atom) × IsContent (is_verbatim_field name) (chars text) atoms

-- ---- entries before inheriting

-- the texts of an entry with this text as the field of a name, or without the field if there is no text
abbrev pub with_field_text : List ℕ → Option (List Atom) → EntryTexts → EntryTexts
with_field_text name text texts = record texts { fields = λ other. if bytes_eq other name then text else texts.fields other }

-- The entries `others` have the keys, the types and the styled texts of the fields of `own`, except for one field of the entry at an
-- index. This field has the text `text`, or is missing.
pub record DifferInField (own others : List Entry) (index : ℕ) (name : List ℕ) (text : Option (List Atom)) : Type 0 where
  pub entry : Entry
  pub here : slice_get own index ≡ Some entry
  pub keys : map (λ e. e.key) others ≡ map (λ e. e.key) own
  pub texts : texts_of_entries others ≡ slice_set (texts_of_entries own) index (with_field_text name text (texts_of_entry entry))

-- `others` differ from `own` as `DifferInField` states: a field of the entry with a key has the contents of a text
pub record AreSet (own others : List Entry) (key name text : List ℕ) : Type 0 where
  pub index : ℕ
  pub atoms : List Atom
  pub contents : IsContent (is_verbatim_field name) (chars text) atoms
  pub differ : DifferInField own others index name (Some atoms)
  pub is : differ.entry.key ≡ key

-- `others` differ from `own` as `DifferInField` states: the entry with this key has no field with this name
pub record AreUnset (own others : List Entry) (key name : List ℕ) : Type 0 where
  pub index : ℕ
  pub differ : DifferInField own others index name None
  pub is : differ.entry.key ≡ key

-- ---- bibliographies

-- the fields that an entry may lack after inheriting although it has them itself: `xdata` is removed, and an inherited date replaces the
-- month and the day of an entry with neither a date nor a year
abbrev pub lost_names : Names
lost_names = fields "xdata month day"

-- a bibliography has exactly one entry with this key, and its field of this name has the contents of this text. The key points to this
-- entry, or to a later one, as it does if that has the key as an alias in `ids`
pub record HasFieldContents (bibliography : Bibliography) (key name text : List ℕ) : Type 0 where
  pub index : ℕ
  pub entry : Entry
  pub here : slice_get bibliography.entries index ≡ Some entry
  pub is : entry.key ≡ key
  pub one : (other : ℕ) (e : Entry) → slice_get bibliography.entries other ≡ Some e → e.key ≡ key → other ≡ index
  pub found : (at : ℕ) × (index_of bibliography key ≡ Some at) × (index ≤ at)
  pub chunks : List (Spanned Chunk)
  pub has : by_name.get entry.fields name ≡ Some chunks
  pub contents : IsContent (is_verbatim_field name) (chars text) (styled chunks)

-- the fields that decide more than their own contents: the other names of the entry, the names of entries from which it inherits, and a
-- date or its year, month and day
abbrev pub linked_names : Names
linked_names = fields "ids crossref xdata date year month day"

-- two bibliographies have the same keys, entry types and names. Each entry has the same styled texts of fields, with two exceptions.
-- One field of the entry with a key may differ. So may entries that lead to this one by the references of `own`, the entries before
-- inheriting.
pub record AreAlikeExcept (own : List Entry) (one other : Bibliography) (key name : List ℕ) : Type 0 where
  pub index : ℕ
  pub entry : Entry
  pub here : slice_get own index ≡ Some entry
  pub is : entry.key ≡ key
  pub keys : map (λ e. e.key) one.entries ≡ map (λ e. e.key) other.entries
  pub types : map (λ e. e.entry_type) one.entries ≡ map (λ e. e.entry_type) other.entries
  pub names : one.names ≡ other.names
  pub fields : (field : List ℕ) → bytes_eq field name ≡ false
      → (at_index (texts_of_entries one.entries) index).fields field ≡ (at_index (texts_of_entries other.entries) index).fields field
  pub others : (at : ℕ) → (at ≡ index → ⊥) → (Leads (graph_of own) at index → ⊥)
      → at_index (texts_of_entries one.entries) at ≡ at_index (texts_of_entries other.entries) at

-- the styled text of a field of an entry is the one that the entry inherits; if it inherits none, the field is missing. `own` are the
-- entries before inheriting
pub record IsInherited (own : List Entry) (bibliography : Bibliography) (key name : List ℕ) : Type 0 where
  pub index : ℕ
  pub entry : Entry
  pub here : slice_get own index ≡ Some entry
  pub is : entry.key ≡ key
  pub field : (at_index (texts_of_entries bibliography.entries) index).fields name
      ≡ inherited_field entry.entry_type name (map (at_index (texts_of_entries bibliography.entries)) (refs_of (graph_of own) index))
