-- Entries in terms of the data structures are entries in terms of the grammar.
use Rattle.std.proofs.Common.{◌≡◌, ℕ, Bool, List, [], ◌∷◌, map, refl, sym, ap, ◌∙◌, subst, Option, None, Some, MatchOption, inl, inr}
use Rattle.std.specs.Prelude.{reverse, find, bytes_eq, option_map}
use Rattle.std.specs.FinMap as by_name
use Rattle.std.proofs.lemmas.Bool.{cases_Bool}
use Rattle.bib_chunks.specs.declared.chunk.Chunk.{Chunk}
use Rattle.bib_text.specs.declared.spanned.Spanned.{Spanned}
use Rattle.bib_text.proofs.ReverseFacts.{find_of_map, reverse_of_map}
use Rattle.bib_abbreviations.specs.Abbreviations.{Definitions}
use Rattle.bib_syntax.specs.Reading.{FieldReading}
use Rattle.bib_syntax.specs.Views.{field_of, entry_reading_of}
use Rattle.bib_syntax.specs.declared.raw.Pair.{Pair}
use Rattle.bib_syntax.specs.declared.raw.RawEntry.{RawEntry}
use Rattle.bib_syntax.specs.declared.raw.ParseError.{ParseError}
use Rattle.bib_entry.specs.declared.entry.Entry.{Entry}
use Rattle.bib_file_entries.specs.Loading.{IsEntryOf, IsFieldsError, AreReadable, IsFieldOf, last_field}
use Rattle.bib_file_entries.specs.Loaded.{IsEntry, IsFirstErrorOfFields, AllCanBeRead, FieldSays, field_in, name_of}

-- raw fields that can be parsed can be parsed in terms of the grammar
pub readable_same : (definitions : Definitions) (pairs : List Pair) → AreReadable definitions pairs
    → AllCanBeRead definitions (map field_of pairs)
readable_same definitions [] all = tt
readable_same definitions (p ∷ rest) all = (all.0, readable_same definitions rest all.1)

-- the first error of raw fields is their first error in terms of the grammar
pub error_same : {definitions : Definitions} {pairs : List Pair} {e : ParseError} → IsFieldsError definitions pairs e
    → IsFirstErrorOfFields definitions (map field_of pairs) e
error_same (IsFieldsError.here error unread) = IsFirstErrorOfFields.here error unread
error_same (IsFieldsError.following read error) = IsFirstErrorOfFields.following read (error_same error)

-- the contents of a raw field are those of its reading in terms of the grammar
field_same : (definitions : Definitions) (o : Option Pair) (at : Option (List (Spanned Chunk)))
    → MatchOption o (at ≡ None) (λ p. (chunks : List (Spanned Chunk)) × (at ≡ Some chunks) × IsFieldOf definitions p chunks)
    → MatchOption (option_map field_of o) (at ≡ None)
    (λ f. (chunks : List (Spanned Chunk)) × (at ≡ Some chunks) × FieldSays definitions f chunks)
field_same definitions None at found = found
field_same definitions (Some p) at found = found

-- the contents of the last raw field of a name are those of its field in terms of the grammar
pub found_same : (definitions : Definitions) (fields : List Pair) (name : List ℕ) (at : Option (List (Spanned Chunk)))
    → MatchOption (last_field fields name) (at ≡ None)
    (λ p. (chunks : List (Spanned Chunk)) × (at ≡ Some chunks) × IsFieldOf definitions p chunks)
    → MatchOption (field_in (map field_of fields) name) (at ≡ None)
    (λ f. (chunks : List (Spanned Chunk)) × (at ≡ Some chunks) × FieldSays definitions f chunks)
found_same definitions fields name at found =
    let same : field_in (map field_of fields) name ≡ option_map field_of (last_field fields name) =
    ap (find (λ f. bytes_eq name (name_of f))) (reverse_of_map field_of fields)
    ∙ find_of_map field_of (λ f. bytes_eq name (name_of f)) (reverse fields) in
    subst
    (λ o.
    MatchOption o (at ≡ None)
    (λ f. (chunks : List (Spanned Chunk)) × (at ≡ Some chunks) × FieldSays definitions f chunks)) (sym same)
    (field_same definitions (last_field fields name) at found)

-- the entry of a raw entry is its entry in terms of the grammar
pub entry_same : {definitions : Definitions} {raw : Spanned RawEntry} {entry : Entry}
    → IsEntryOf definitions raw.v entry → IsEntry definitions (entry_reading_of raw) entry
entry_same {definitions} {raw} {entry} read = record {
  key = read.key;
  kind = read.kind;
  fields = λ name. found_same definitions raw.v.fields.items name (by_name.get entry.fields name) (read.fields name);
  readable = readable_same definitions raw.v.fields.items read.readable;
}
