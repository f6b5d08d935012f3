-- Meaning: words of public contracts.
-- The text of entries in BibLaTeX's or BibTeX's types and fields, as the Rust crate `biblatex` writes them, with the exceptions
-- that docs/DIFFERENCES.md lists. Texts are lists of bytes.
use Rattle.std.specs.Prelude.{ℕ, List, [], ◌∷◌, ◌++◌, codes, encode_utf8_all, bytes_eq, if◌then◌else◌, Option, Some, None}
use Rattle.std.specs.FinMap.{entries}
use Rattle.std.specs.List.{flat_map}
use Rattle.bib_text.specs.declared.spanned.Spanned.{Spanned}
use Rattle.bib_chunks.specs.declared.chunk.Chunk.{Chunk}
use Rattle.bib_chunks.specs.Written.{written_value}
use Rattle.bib_tables.specs.VerbatimFields.{is_verbatim_field}
use Rattle.bib_tables.specs.EntryType.{entry_type_name, biblatex_type, bibtex_type}
use Rattle.bib_tables.specs.declared.mechanics.EntryType.{EntryType}
use Rattle.bib_tables.specs.declared.dialects.Dialect.{Dialect}
use Rattle.bib_tables.specs.declared.dialects.Dialect.TheVariants.{Biblatex, Bibtex}
use Rattle.bib_tables.specs.Dialects.{biblatex_name, bibtex_name}
use Rattle.bib_dates.specs.Chunks.{date_read}
use Rattle.bib_dates.specs.Written.{first_side, second_side, year_text, month_text, day_text}
use Rattle.bib_dates.specs.declared.date.Date.{Date}
use Rattle.bib_dates.specs.declared.date.Datetime.{Datetime}
use Rattle.bib_entry.specs.declared.entry.Entry.{Entry}

-- the value of a field with its braces; the name of the field in the entry decides whether it is verbatim
abbrev pub value_bytes : List ℕ → List (Spanned Chunk) → List ℕ
value_bytes name chunks = encode_utf8_all (written_value chunks (is_verbatim_field name))

-- the line of a field: its name in the output, and its value
abbrev pub written_line : List ℕ → List ℕ → List ℕ
written_line name value = name ++ (codes " = " ++ (value ++ codes ",\n"))

-- the text of an entry, from the name of its type, its key and the lines of its fields
abbrev pub entry_text : List ℕ → List ℕ → List ℕ → List ℕ
entry_text kind key lines = codes "@" ++ (kind ++ (codes "{" ++ (key ++ (codes ",\n" ++ (lines ++ codes "}")))))

-- the line of a field with BibLaTeX's name
abbrev pub biblatex_field : List ℕ × List (Spanned Chunk) → List ℕ
biblatex_field f = written_line (biblatex_name f.0) (value_bytes f.0 f.1)

-- the text of an entry in BibLaTeX's type and fields, in the order of the bytes of the fields' names in the entry
abbrev pub biblatex_entry : Entry → List ℕ
biblatex_entry e = entry_text (entry_type_name (biblatex_type e.entry_type)) e.key (flat_map biblatex_field (entries e.fields))

-- the line of a part of a date; empty if there is no such part
abbrev pub part_line : List ℕ → Option (List ℕ) → List ℕ
part_line name None = []
part_line name (Some text) = written_line name (codes "{" ++ (text ++ codes "}"))

-- the lines of one side of a date, with `prefix` before their names: a year, a month if it has one, and a day if it has both
abbrev pub side_lines : List ℕ → Datetime → List ℕ
side_lines prefix d =
    part_line (prefix ++ codes "year") (Some (year_text d.year))
    ++ (part_line (prefix ++ codes "month") (month_text d) ++ part_line (prefix ++ codes "day") (day_text d))

-- the lines of the second side of a date; empty if it has one side
abbrev pub end_lines : Option Datetime → List ℕ
end_lines None = []
end_lines (Some d) = side_lines (codes "end") d

-- the lines of a date in separate fields. A range that is open on one side has the lines of its other side, without the
-- prefix `end`
abbrev pub date_lines : Date → List ℕ
date_lines d = side_lines [] (first_side d.value) ++ end_lines (second_side d.value)

-- the lines of a date, or this text if the field `date` can't be parsed
abbrev pub date_or : List ℕ → Option Date → List ℕ
date_or text None = text
date_or text (Some d) = date_lines d

-- the lines of a field of an entry of this type in BibTeX
abbrev pub bibtex_field : EntryType → List ℕ × List (Spanned Chunk) → List ℕ
bibtex_field kind f =
    if bytes_eq (codes "date") f.0 then date_or (written_line (codes "date") (value_bytes f.0 f.1)) (date_read f.1)
    else written_line (bibtex_name kind f.0) (value_bytes f.0 f.1)

-- the text of an entry in BibTeX's type and fields, in the order of the bytes of the fields' names in the entry
abbrev pub bibtex_entry : Entry → List ℕ
bibtex_entry e = entry_text (entry_type_name (bibtex_type e.entry_type)) e.key (flat_map (bibtex_field e.entry_type) (entries e.fields))

-- the lines of a field of an entry of this type in a dialect
abbrev pub written_field : Dialect → EntryType → List ℕ × List (Spanned Chunk) → List ℕ
written_field Biblatex kind f = biblatex_field f
written_field Bibtex kind f = bibtex_field kind f

-- the text of an entry in the types and fields of a dialect
abbrev pub entry_in : Dialect → Entry → List ℕ
entry_in Biblatex = biblatex_entry
entry_in Bibtex = bibtex_entry

-- the text of entries, from the text of each: a line feed after each, and an empty line between two. Without entries it is
-- empty
abbrev pub entries_text : (Entry → List ℕ) → List Entry → List ℕ
entries_text written [] = []
entries_text written (e ∷ []) = written e ++ codes "\n"
entries_text written (e ∷ next ∷ rest) = written e ++ (codes "\n\n" ++ entries_text written (next ∷ rest))
