-- Meaning: words of public contracts.
-- The entries of a file, each with its own fields, and the first error if a field can't be parsed or a key was claimed
-- before.
use Rattle.std.specs.Prelude.{◌≡◌, ℕ, Bool, true, false, List, [], ◌∷◌, ◌++◌, map, reverse, find, bytes_eq, option_map, Option, Some, None, MatchOption}
use Rattle.std.specs.Char.{to_ascii_lowercase}
use Rattle.std.specs.FinMap as by_name
use Rattle.std.specs.List.{list_any}
use Rattle.bib_chunks.specs.declared.chunk.Chunk.{Chunk}
use Rattle.bib_text.specs.declared.spanned.Spanned.{Spanned}
use Rattle.bib_abbreviations.specs.Abbreviations.{AreContents, Definitions, IsFirstError, IsReadable}
pub use Rattle.bib_abbreviations.specs.Abbreviations.{definition_in}
use Rattle.bib_tables.specs.VerbatimFields.{is_verbatim_field}
use Rattle.bib_syntax.specs.Reading.{FieldReading, EntryReading}
use Rattle.bib_syntax.specs.declared.raw.ParseError.{ParseError}
use Rattle.bib_syntax.specs.declared.raw.ParseErrorKind.TheVariants.{DuplicateKey}
use Rattle.bib_tables.specs.EntryType.{entry_type_of}
use Rattle.bib_entry.specs.declared.entry.Entry.{Entry}
use Rattle.bib_file_entries.specs.Bibliography.{Bibliography, claims, with_last_entry}

-- the name of a raw field, with ASCII letters in lowercase
abbrev pub name_of : FieldReading → List ℕ
name_of f = map to_ascii_lowercase f.name.text

-- the field of a name: the last one with the name
abbrev pub field_in : List FieldReading → List ℕ → Option FieldReading
field_in fields name = find (λ f. bytes_eq name (name_of f)) (reverse fields)

-- chunks are the contents of a raw field
abbrev pub FieldSays : Definitions → FieldReading → List (Spanned Chunk) → Type 0
FieldSays definitions f chunks = AreContents definitions (is_verbatim_field (name_of f)) f.value.pieces chunks

-- a raw field can be parsed
abbrev pub CanBeRead : Definitions → FieldReading → Type 0
CanBeRead definitions f = IsReadable definitions (is_verbatim_field (name_of f)) f.value.pieces

-- each raw field can be parsed
abbrev pub AllCanBeRead : Definitions → List FieldReading → Type 0
AllCanBeRead definitions [] = Unit {0}
AllCanBeRead definitions (f ∷ rest) = CanBeRead definitions f × AllCanBeRead definitions rest

-- `entry` is the entry of a raw entry: it has its key and its type. Under each name in ASCII lowercase it has the contents
-- of the last field with this name in any ASCII case. Each field can be parsed.
pub record IsEntry (definitions : Definitions) (said : EntryReading) (entry : Entry) : Type 0 where
  pub key : entry.key ≡ said.key.text
  pub kind : entry.entry_type ≡ entry_type_of said.kind.text
  pub fields : (name : List ℕ)
      → MatchOption (field_in said.fields name) (by_name.get entry.fields name ≡ None)
      (λ f.
      (chunks : List (Spanned Chunk)) × (by_name.get entry.fields name ≡ Some chunks)
      × FieldSays definitions f chunks)
  pub readable : AllCanBeRead definitions said.fields

-- whether a name was claimed
abbrev pub is_claimed : List (List ℕ) → List ℕ → Bool
is_claimed claimed name = list_any (bytes_eq name) claimed

-- `AreEntries` relates raw entries to entries in order, after the claims of earlier ones: no key is a name that was claimed
-- before
pub data AreEntries (definitions : Definitions) : List (List ℕ) → List EntryReading → List Entry → Type 0 where
  none : {claimed : List (List ℕ)} → AreEntries definitions claimed [] []
  next : {claimed : List (List ℕ)} {said : EntryReading} {rest : List EntryReading} {entry : Entry} {entries : List Entry}
      → is_claimed claimed said.key.text ≡ false → IsEntry definitions said entry
      → AreEntries definitions (claimed ++ claims entry) rest entries
      → AreEntries definitions claimed (said ∷ rest) (entry ∷ entries)

-- the error of the first field that can't be parsed
pub data IsFirstErrorOfFields (definitions : Definitions) : List FieldReading → ParseError → Type 0 where
  here : {f : FieldReading} {rest : List FieldReading} {e : ParseError}
      → IsFirstError definitions (is_verbatim_field (name_of f)) [] f.value.pieces e
      → (CanBeRead definitions f → ⊥) → IsFirstErrorOfFields definitions (f ∷ rest) e
  following : {f : FieldReading} {rest : List FieldReading} {e : ParseError} → CanBeRead definitions f
      → IsFirstErrorOfFields definitions rest e
      → IsFirstErrorOfFields definitions (f ∷ rest) e

-- the first error of raw entries in order, after the claims of earlier ones: a key that was claimed before, or a field that
-- can't be parsed. The key of an entry is checked before its fields
pub data IsFirstErrorOfEntries (definitions : Definitions) : List (List ℕ) → List EntryReading → ParseError → Type 0 where
  duplicate : {claimed : List (List ℕ)} {said : EntryReading} {rest : List EntryReading} {e : ParseError}
      → is_claimed claimed said.key.text ≡ true
      → e ≡ record { span = record { start = said.start; end = said.end }; kind = DuplicateKey said.key.text }
      → IsFirstErrorOfEntries definitions claimed (said ∷ rest) e
  unreadable : {claimed : List (List ℕ)} {said : EntryReading} {rest : List EntryReading} {e : ParseError}
      → is_claimed claimed said.key.text ≡ false
      → IsFirstErrorOfFields definitions said.fields e → IsFirstErrorOfEntries definitions claimed (said ∷ rest) e
  following : {claimed : List (List ℕ)} {said : EntryReading} {rest : List EntryReading} {entry : Entry}
      {e : ParseError} → is_claimed claimed said.key.text ≡ false
      → IsEntry definitions said entry → IsFirstErrorOfEntries definitions (claimed ++ claims entry) rest e
      → IsFirstErrorOfEntries definitions claimed (said ∷ rest) e

-- a bibliography with entries added at the end, in order, each with the names that it claims
abbrev pub loaded_after : Bibliography → List Entry → Bibliography
loaded_after bibliography [] = bibliography
loaded_after bibliography (entry ∷ entries) = loaded_after (with_last_entry bibliography entry) entries
