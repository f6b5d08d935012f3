-- Machinery: words of private contracts.
-- Loaded entries and the first error, in terms of the data structures.
use Rattle.std.specs.Prelude.{◌≡◌, ℕ, List, [], ◌∷◌, map, reverse, find, bytes_eq, option_map, Option, Some, None, MatchOption}
use Rattle.std.specs.Char.{to_ascii_lowercase}
use Rattle.std.specs.FinMap as by_name
use Rattle.bib_chunks.specs.declared.chunk.Chunk.{Chunk}
use Rattle.bib_text.specs.declared.spanned.Spanned.{Spanned}
use Rattle.bib_abbreviations.specs.Abbreviations.{AreContents, Definitions, IsFirstError, IsReadable}
use Rattle.bib_tables.specs.VerbatimFields.{is_verbatim_field}
use Rattle.bib_syntax.specs.Reading.{Piece}
use Rattle.bib_syntax.specs.Views.{piece_of}
use Rattle.bib_syntax.specs.declared.raw.Pair.{Pair}
use Rattle.bib_syntax.specs.declared.raw.ParseError.{ParseError}
use Rattle.bib_syntax.specs.declared.raw.RawEntry.{RawEntry}
use Rattle.bib_tables.specs.EntryType.{entry_type_of}
use Rattle.bib_entry.specs.declared.entry.Entry.{Entry}

-- the pieces of a value
abbrev pub pieces_of : Pair → List Piece
pieces_of p = map piece_of p.value.v.items

-- the name of a field, with ASCII letters in lowercase
abbrev pub field_name : Pair → List ℕ
field_name p = map to_ascii_lowercase p.key.v.now

-- the field of a name: the last one with the name
abbrev pub last_field : List Pair → List ℕ → Option Pair
last_field fields name = find (λ p. bytes_eq name (field_name p)) (reverse fields)

-- chunks are the contents of a field
abbrev pub IsFieldOf : Definitions → Pair → List (Spanned Chunk) → Type 0
IsFieldOf definitions p chunks = AreContents definitions (is_verbatim_field (field_name p)) (pieces_of p) chunks

-- a field can be parsed
abbrev pub IsFieldReadable : Definitions → Pair → Type 0
IsFieldReadable definitions p = IsReadable definitions (is_verbatim_field (field_name p)) (pieces_of p)

-- a name and chunks are a parsed field
pub record IsRead (definitions : Definitions) (p : Pair) (pair : List ℕ × List (Spanned Chunk)) : Type 0 where
  pub name : pair.0 ≡ field_name p
  pub value : IsFieldOf definitions p pair.1
  pub readable : IsFieldReadable definitions p

-- each field can be parsed
abbrev pub AreReadable : Definitions → List Pair → Type 0
AreReadable definitions [] = Unit {0}
AreReadable definitions (p ∷ rest) = IsFieldReadable definitions p × AreReadable definitions rest

-- `entry` is the entry of a raw entry: it has its key and its type. For each name it has the contents of the last field with
-- the name
pub record IsEntryOf (definitions : Definitions) (raw : RawEntry) (entry : Entry) : Type 0 where
  pub key : entry.key ≡ raw.key.v.now
  pub kind : entry.entry_type ≡ entry_type_of raw.kind.v.now
  pub fields : (name : List ℕ)
      → MatchOption (last_field raw.fields.items name) (by_name.get entry.fields name ≡ None)
      (λ p.
      (chunks : List (Spanned Chunk)) × (by_name.get entry.fields name ≡ Some chunks)
      × IsFieldOf definitions p chunks)
  pub readable : AreReadable definitions raw.fields.items

-- the error of the first field that can't be parsed
pub data IsFieldsError (definitions : Definitions) : List Pair → ParseError → Type 0 where
  here : {p : Pair} {rest : List Pair} {e : ParseError} → IsFirstError definitions (is_verbatim_field (field_name p)) [] (pieces_of p) e
      → (IsFieldReadable definitions p → ⊥) → IsFieldsError definitions (p ∷ rest) e
  following : {p : Pair} {rest : List Pair} {e : ParseError} → IsFieldReadable definitions p → IsFieldsError definitions rest e
      → IsFieldsError definitions (p ∷ rest) e
