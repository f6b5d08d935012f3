-- Meaning: words of public contracts.
-- The entries that are kept of a file with errors. An entry is left out if an earlier kept entry claimed its key, and a
-- field if it can't be parsed. An abbreviation in a field is undefined if it is neither defined in the file nor that of a
-- month. It is kept as text, like a literal. Each of these adds an error.
use Rattle.std.specs.Prelude.{◌≡◌, true, false, List, [], ◌∷◌, ◌++◌, ℕ, map, slice_get, Some, if◌then◌else◌}
use Rattle.bib_abbreviations.specs.Abbreviations.{Definitions, IsFirstError, error_at, is_known}
use Rattle.bib_entry.specs.declared.entry.Entry.{Entry}
use Rattle.bib_tables.specs.VerbatimFields.{is_verbatim_field}
use Rattle.bib_file_entries.specs.Bibliography.{claims}
use Rattle.bib_file_entries.specs.Loaded.{CanBeRead, IsEntry, is_claimed, name_of}
use Rattle.bib_syntax.specs.Reading.{EntryReading, FieldReading, Piece}
use Rattle.bib_syntax.specs.Reading.Piece.{abbreviation, literal}
use Rattle.bib_syntax.specs.declared.raw.ParseError.{ParseError}
use Rattle.bib_syntax.specs.declared.raw.ParseErrorKind.TheVariants.{DuplicateKey, UnknownAbbreviation}

-- a piece, with an undefined abbreviation replaced by its name as text
abbrev pub mended_piece : Definitions → Piece → Piece
mended_piece definitions (literal p) = literal p
mended_piece definitions (abbreviation p) = if is_known definitions p.text then abbreviation p else literal p

-- a raw field, with each undefined abbreviation replaced by its name as text
abbrev pub mended_field : Definitions → FieldReading → FieldReading
mended_field definitions f = record f { value = record f.value { pieces = map (mended_piece definitions) f.value.pieces } }

-- the errors of the undefined abbreviations among pieces, in order, each at its span
abbrev pub unknown_names : Definitions → List Piece → List ParseError
unknown_names definitions [] = []
unknown_names definitions (literal p ∷ rest) = unknown_names definitions rest
unknown_names definitions (abbreviation p ∷ rest) =
    if is_known definitions p.text then unknown_names definitions rest
    else error_at p (UnknownAbbreviation p.text) ∷ unknown_names definitions rest

-- the fields kept of a list of raw fields, with undefined abbreviations replaced, and the errors. A field is left out if it
-- can't be parsed even so
pub data FieldsKept (definitions : Definitions) : List FieldReading → List FieldReading → List ParseError → Type 0 where
  none : FieldsKept definitions [] [] []
  kept : {f : FieldReading} {rest fields : List FieldReading} {errors : List ParseError}
      → CanBeRead definitions (mended_field definitions f) → FieldsKept definitions rest fields errors
      → FieldsKept definitions (f ∷ rest) (mended_field definitions f ∷ fields) (unknown_names definitions f.value.pieces ++ errors)
  left_out : {f : FieldReading} {rest fields : List FieldReading} {e : ParseError} {errors : List ParseError}
      → IsFirstError definitions (is_verbatim_field (name_of f)) [] (mended_field definitions f).value.pieces e
      → (CanBeRead definitions (mended_field definitions f) → ⊥) → FieldsKept definitions rest fields errors
      → FieldsKept definitions (f ∷ rest) fields (unknown_names definitions f.value.pieces ++ e ∷ errors)

-- a raw entry with other fields
abbrev pub with_fields : EntryReading → List FieldReading → EntryReading
with_fields said fields = record said { fields = fields }

-- `kept` is the raw entry at this index, except for its fields
pub record IsKeptFrom (said : List EntryReading) (index : ℕ) (kept : EntryReading) : Type 0 where
  pub one : EntryReading
  pub there : slice_get said index ≡ Some one
  pub is : kept ≡ with_fields one kept.fields

-- the error of a raw entry whose key was claimed before, at the entry
abbrev pub duplicate_key : EntryReading → ParseError
duplicate_key said = record { span = record { start = said.start; end = said.end }; kind = DuplicateKey said.key.text }

-- the raw entries kept of a list after the earlier claims, in order, each with its kept fields; the entries that they are
-- converted to; and the errors
pub data EntriesKept (definitions : Definitions) : List (List ℕ) → List EntryReading → List EntryReading → List Entry
    → List ParseError → Type 0 where
  none : {claimed : List (List ℕ)} → EntriesKept definitions claimed [] [] [] []
  duplicate : {claimed : List (List ℕ)} {said : EntryReading} {rest kept : List EntryReading} {entries : List Entry}
      {errors : List ParseError}
      → is_claimed claimed said.key.text ≡ true → EntriesKept definitions claimed rest kept entries errors
      → EntriesKept definitions claimed (said ∷ rest) kept entries (duplicate_key said ∷ errors)
  next : {claimed : List (List ℕ)} {said : EntryReading} {fields : List FieldReading} {entry : Entry}
      {rest kept : List EntryReading} {entries : List Entry}
      {first errors : List ParseError} → is_claimed claimed said.key.text ≡ false → FieldsKept definitions said.fields fields first
      → IsEntry definitions (with_fields said fields) entry → EntriesKept definitions (claimed ++ claims entry) rest kept entries errors
      → EntriesKept definitions claimed (said ∷ rest) (with_fields said fields ∷ kept) (entry ∷ entries) (first ++ errors)
