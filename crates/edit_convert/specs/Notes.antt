-- Meaning: words of public contracts.
-- Notes on fields that are kept although the dialect has another field for them or doesn't read them. There are also notes on replaced
-- dates that it doesn't read fully.
use Rattle.std.specs.Prelude.{ℕ, suc, Bool, ◌||◌, if◌then◌else◌, List, [], ◌∷◌, ◌++◌, codes, is_some, Option, Some, None}
use Rattle.std.specs.List.{list_any}
use Rattle.bib_syntax.specs.Grammar.{is_word}
use Rattle.bib_syntax.specs.Reading.{EntryReading, FieldReading}
use Rattle.bib_tables.specs.EntryType.{entry_type_of}
use Rattle.bib_tables.specs.declared.dialects.Dialect.{Dialect}
use Rattle.bib_tables.specs.declared.dialects.Dialect.TheVariants.{Biblatex, Bibtex}
use Rattle.edit_entries.specs.Documents.{Document, has_name}
use Rattle.edit_convert.specs.Conversions.{Replacement, defines_month, field_replacement, other_name, other_names}
use Rattle.edit_convert.specs.Dates.{Sides}
use Rattle.edit_convert.specs.declared.notes.Note.{Note}
use Rattle.edit_convert.specs.declared.notes.NoteKind.{NoteKind}
use Rattle.edit_convert.specs.declared.notes.NoteKind.TheVariants.{DateStays, MonthStays, NameIsThere, NotRead, PartsNotRead}

-- the fields that the standard styles of BibTeX read
abbrev pub bibtex_fields : List (List ℕ)
bibtex_fields =
    codes "address" ∷ codes "author" ∷ codes "booktitle" ∷ codes "chapter" ∷ codes "crossref" ∷ codes "edition"
    ∷ codes "editor" ∷ codes "howpublished" ∷ codes "institution" ∷ codes "journal" ∷ codes "key" ∷ codes "month"
    ∷ codes "note" ∷ codes "number" ∷ codes "organization" ∷ codes "pages" ∷ codes "publisher" ∷ codes "school"
    ∷ codes "series" ∷ codes "title" ∷ codes "type" ∷ codes "volume" ∷ codes "year" ∷ []

-- whether a name is that of one of them, in any ASCII case
abbrev pub is_bibtex_field : List ℕ → Bool
is_bibtex_field name = list_any (is_word name) bibtex_fields

-- the note on a field that is kept, for BibTeX: it is a date, or no standard style reads it
abbrev pub bibtex_note : FieldReading → Option NoteKind
bibtex_note f = if has_name (codes "date") f then Some DateStays else if is_bibtex_field f.name.text then None else Some NotRead

-- the note on a field that is kept, for BibLaTeX: it is a month
abbrev pub biblatex_note : FieldReading → Option NoteKind
biblatex_note f = if has_name (codes "month") f then Some MonthStays else None

-- the note on a field that is kept, for a dialect
abbrev pub dialect_note : Dialect → FieldReading → Option NoteKind
dialect_note Biblatex f = biblatex_note f
dialect_note Bibtex f = bibtex_note f

-- the note on a field that is kept, by the dialect's other name for it. If there is one, the entry has a field with that name
abbrev pub kept_note : Dialect → Option (List ℕ) → FieldReading → Option NoteKind
kept_note dialect (Some other) f = Some NameIsThere
kept_note dialect None f = dialect_note dialect f

-- whether a date has parts that no standard style reads: a day, or a second side
abbrev pub has_unread_parts : Sides → Bool
has_unread_parts sides = is_some sides.from.day || is_some sides.to

-- the note on a field that is replaced: a date may have parts that no standard style reads
abbrev pub replaced_note : Replacement → Option NoteKind
replaced_note (Replacement.with_parts defines sides) = if has_unread_parts sides then Some PartsNotRead else None
replaced_note change = None

-- the note on a field, by its replacement and the dialect's other name for it
abbrev pub change_note : Dialect → Option Replacement → Option (List ℕ) → FieldReading → Option NoteKind
change_note dialect (Some change) other f = replaced_note change
change_note dialect None other f = kept_note dialect other f

-- the note on an entry's field. `defines` is whether the file defines the abbreviation of a month.
abbrev pub field_note : Dialect → Bool → List ℕ → EntryReading → FieldReading → Option NoteKind
field_note dialect defines text e f =
    change_note dialect (field_replacement dialect defines text e f)
    (other_name (other_names dialect (entry_type_of e.kind.text)) f.name.text) f

-- the results for all elements of a list and their indices, in order; the first element has the given index
abbrev pub indexed : {A B : Type 0} → (ℕ → A → List B) → ℕ → List A → List B
indexed each index [] = []
indexed each index (x ∷ xs) = each index x ++ indexed each (suc index) xs

-- a note as a list, with the indices of its entry and its field
abbrev pub note_at : ℕ → ℕ → Option NoteKind → List Note
note_at entry field None = []
note_at entry field (Some kind) = record { entry = entry; field = field; kind = kind } ∷ []

-- the notes on the fields of the entry with an index
abbrev pub entry_notes : Dialect → Bool → List ℕ → ℕ → EntryReading → List Note
entry_notes dialect defines text entry e = indexed (λ field f. note_at entry field (field_note dialect defines text e f)) 0 e.fields

-- the notes on a document's fields
abbrev pub file_notes : Dialect → Document → List Note
file_notes dialect d = indexed (entry_notes dialect (defines_month d.says.abbreviations) d.text) 0 d.says.entries
