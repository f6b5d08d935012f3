-- Machinery: words of private contracts.
-- Kept fields and entries, in terms of the data structures. `old` and `new` are the errors before and after.
use Rattle.std.specs.Prelude.{◌≡◌, ℕ, List, [], ◌∷◌, ◌++◌, map, Option, Some, None}
use Rattle.std.specs.List.{AllZip}
use Rattle.bib_abbreviations.specs.Abbreviations.{Definitions, IsFirstError}
use Rattle.bib_chunks.specs.declared.chunk.Chunk.{Chunk}
use Rattle.bib_entry.specs.declared.entry.Entry.{Entry}
use Rattle.bib_tables.specs.VerbatimFields.{is_verbatim_field}
use Rattle.bib_file_entries.specs.Kept.{FieldsKept, mended_field, unknown_names, with_fields}
use Rattle.bib_file_entries.specs.Loaded.{CanBeRead, IsEntry, name_of}
use Rattle.bib_file_entries.specs.Loading.{IsRead, pieces_of}
use Rattle.bib_syntax.specs.Reading.{EntryReading, FieldReading}
use Rattle.bib_syntax.specs.Views.{field_of}
use Rattle.bib_syntax.specs.declared.raw.Pair.{Pair}
use Rattle.bib_syntax.specs.declared.raw.ParseError.{ParseError}
use Rattle.bib_text.specs.declared.spanned.Spanned.{Spanned}

-- a name and chunks are the parsed field, with undefined abbreviations replaced by text; an error is added for each of these
pub record IsKeptField (definitions : Definitions) (said : Pair) (old new : List ParseError)
    (pair : List ℕ × List (Spanned Chunk)) : Type 0 where
  pub kept : Pair
  pub is : field_of kept ≡ mended_field definitions (field_of said)
  pub read : IsRead definitions kept pair
  pub errors : new ≡ old ++ unknown_names definitions (pieces_of said)

-- a field can't be parsed, even with undefined abbreviations replaced by text; an error is added for each of these, and then
-- its own error
pub record IsLeftOut (definitions : Definitions) (said : Pair) (old new : List ParseError) : Type 0 where
  pub error : ParseError
  pub first : IsFirstError definitions (is_verbatim_field (name_of (field_of said))) []
      (mended_field definitions (field_of said)).value.pieces error
  pub unread : CanBeRead definitions (mended_field definitions (field_of said)) → ⊥
  pub errors : new ≡ old ++ (unknown_names definitions (pieces_of said) ++ error ∷ [])

-- a field is parsed, or left out
abbrev pub IsTried : Definitions → Pair → List ParseError → List ParseError → Option (List ℕ × List (Spanned Chunk)) → Type 0
IsTried definitions said old new (Some pair) = IsKeptField definitions said old new pair
IsTried definitions said old new None = IsLeftOut definitions said old new

-- names and chunks are the parsed fields that are kept of the raw fields; the errors are added
pub record AreKeptFields (definitions : Definitions) (said : List Pair) (old new : List ParseError)
    (pairs : List (List ℕ × List (Spanned Chunk))) : Type 0 where
  pub kept : List Pair
  pub more : List ParseError
  pub fields : FieldsKept definitions (map field_of said) (map field_of kept) more
  pub read : AllZip (IsRead definitions) kept pairs
  pub errors : new ≡ old ++ more

-- an entry is the kept part of a raw entry; the errors are added
pub record IsKeptEntry (definitions : Definitions) (said : EntryReading) (old new : List ParseError) (entry : Entry) : Type 0 where
  pub fields : List FieldReading
  pub more : List ParseError
  pub kept : FieldsKept definitions said.fields fields more
  pub read : IsEntry definitions (with_fields said fields) entry
  pub errors : new ≡ old ++ more
