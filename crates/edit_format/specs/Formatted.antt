-- Meaning: words of public contracts.
-- A text in one style: its entries have a new layout, or are copied. The text between them is unchanged, except for white space if
-- the style asks for blank lines.
use Rattle.std.specs.Prelude.{◌≡◌, ◌&&◌, ◌||◌, ℕ, zero, suc, ◌+◌, ◌-◌, max, Bool, false, if◌then◌else◌, List, [], ◌∷◌, ◌++◌, codes, cond, drop, fold, length, map, nat_lt, not, replicate, Option, None, Some}
use Rattle.std.specs.Char.{is_ascii_whitespace}
use Rattle.std.specs.List.{flat_map, list_all, list_any}
use Rattle.std.specs.Str.{chars, str_to_ascii_lowercase}
use Rattle.bib_text.specs.Characters as char
use Rattle.bib_text.specs.Places.{between, place}
use Rattle.bib_syntax.specs.Grammar.{IsRawReading}
use Rattle.bib_syntax.specs.Reading.{Part, Piece, FieldReading, EntryReading, FileReading}
use Rattle.bib_syntax.specs.Reading.Piece.{literal, abbreviation}
use Rattle.bib_queries.specs.Balance.{is_balanced}
use Rattle.edit_entries.specs.Edits.{moved_entry, moved_field}
pub use Rattle.edit_entries.specs.LineEnds.{line_end_of}
pub use Rattle.bib_queries.specs.Bytes.{has_percent}
use Rattle.edit_format.specs.Delimited.{piece_as_written}
use Rattle.edit_format.specs.Ordered.{in_order, order_of}
use Rattle.edit_format.specs.declared.style.Style.{Style}

-- a value of some pieces, with the separator `first` before the first piece, and `next` before each other
abbrev pub value_laid_out : List ℕ → List ℕ → List (List ℕ) → List ℕ
value_laid_out first next [] = []
value_laid_out first next (t ∷ ts) = first ++ (t ++ value_laid_out next next ts)

-- the output for the pieces of a field's value
abbrev pub elements_as_written : Style → List ℕ → FieldReading → List (List ℕ)
elements_as_written style text f = map (piece_as_written style.delimiters text) f.value.pieces

-- this number of spaces
abbrev pub spaces : ℕ → List ℕ
spaces count = replicate count char.space

-- the length in characters of the longest name of some fields
abbrev pub longest_name : List FieldReading → ℕ
longest_name fields = fold (λ width f. max (length (chars f.name.text)) width) 0 fields

-- the number of characters to which the names of an entry's fields are padded: 0 if the style doesn't align them
abbrev pub padded_width : Style → List FieldReading → ℕ
padded_width style fields = if style.aligned then longest_name fields else 0

-- the line of a field: its padded name and the pieces of its value, with `next` before each except the first
abbrev pub line_laid_out : Style → ℕ → List ℕ → List ℕ → List (List ℕ) → List ℕ
line_laid_out style width next name elements =
    spaces style.indent
    ++
    (str_to_ascii_lowercase name
    ++ (spaces (width - length (chars name)) ++ value_laid_out (codes " = ") next elements))

-- whether a line, with a comma after it, has more characters than a limit, if there is one
abbrev pub is_too_long : Option ℕ → List ℕ → Bool
is_too_long None line = false
is_too_long (Some most) line = nat_lt most (length (chars line) + 1)

-- whether each piece except the first begins a new line: there are several, and on one line they are too long
abbrev pub is_broken : Style → ℕ → List ℕ → List (List ℕ) → Bool
is_broken style width name elements =
    nat_lt 1 (length elements) && is_too_long style.width (line_laid_out style width (codes " # ") name elements)

-- a line end, a space for each character before the value of a field (the equals sign and its spaces are three of them), and `# `
abbrev pub next_line : List ℕ → Style → ℕ → List ℕ → List ℕ
next_line line_end style width name = line_end ++ (spaces style.indent ++ (spaces (max width (length (chars name))) ++ codes "   # "))

-- the separator before each piece of a value except the first
abbrev pub next_sign : List ℕ → Style → ℕ → List ℕ → List (List ℕ) → List ℕ
next_sign line_end style width name elements =
    cond (is_broken style width name elements) (next_line line_end style width name) (codes " # ")

-- a comma and a field, on one line or with one line for each piece
abbrev pub field_laid_out : List ℕ → Style → List ℕ → ℕ → FieldReading → List ℕ
field_laid_out line_end style text width f =
    codes ","
    ++
    (line_end
    ++ line_laid_out style width
    (next_sign line_end style width f.name.text (elements_as_written style text f)) f.name.text
    (elements_as_written style text f))

-- the comma after the last field, if the style has one, or the comma after the key if there is no field
abbrev pub last_comma : Style → List FieldReading → List ℕ
last_comma style [] = codes ","
last_comma style (f ∷ fs) = if style.trailing_comma then codes "," else []

-- an entry in a new layout: its type and key, its fields in the order of the style, and its closing brace on a new line
abbrev pub entry_laid_out : List ℕ → Style → List ℕ → EntryReading → List ℕ
entry_laid_out line_end style text e =
    codes "@"
    ++
    (str_to_ascii_lowercase e.kind.text
    ++
    (codes "{"
    ++
    (e.key.text
    ++
    (flat_map (field_laid_out line_end style text (padded_width style e.fields))
    (in_order (order_of style) e.fields)
    ++ (last_comma style e.fields ++ (line_end ++ codes "}"))))))

-- whether a percent sign is in one of the gaps between an offset, the fields after it and the closing brace
abbrev pub has_percent_between : List ℕ → ℕ → List FieldReading → ℕ → Bool
has_percent_between text start [] end = has_percent text start end
has_percent_between text start (f ∷ fs) end = has_percent text start f.name.start || has_percent_between text f.value.end fs end

-- whether an entry contains a comment: a percent sign between its key, its fields and its closing brace
abbrev pub has_comment : List ℕ → EntryReading → Bool
has_comment text e = has_percent_between text e.key.end e.fields e.end

-- whether a piece is a literal whose braces aren't balanced. BibTeX and Biber end such a text elsewhere or reject it. For them, a backslash
-- escapes no brace, and a quote inside braces doesn't end a text in quotes.
abbrev pub is_unbalanced : Piece → Bool
is_unbalanced (literal p) = not (is_balanced p.text)
is_unbalanced (abbreviation p) = false

-- whether a field has a literal whose braces aren't balanced
abbrev pub has_unbalanced : FieldReading → Bool
has_unbalanced f = list_any is_unbalanced f.value.pieces

-- whether an entry is copied: it contains a comment, or a literal whose braces aren't balanced
abbrev pub is_copied : List ℕ → EntryReading → Bool
is_copied text e = has_comment text e || list_any has_unbalanced e.fields

-- the output for an entry: its new layout, or a copy
abbrev pub entry_in_style : List ℕ → Style → List ℕ → EntryReading → List ℕ
entry_in_style line_end style text e =
    cond (is_copied text e) (between (place text e.start) (place text (e.end + 1)))
    (entry_laid_out line_end style text e)

-- this number of line ends
abbrev pub line_ends : List ℕ → ℕ → List ℕ
line_ends line_end zero = []
line_ends line_end (suc count) = line_end ++ line_ends line_end count

-- the output for the text before an entry. It is a copy, or blank lines if a number of them is given and the text is empty or ASCII
-- white space
abbrev pub gap_in_style : List ℕ → Option ℕ → List ℕ → List ℕ
gap_in_style line_end None gap = gap
gap_in_style line_end (Some count) gap = cond (list_all is_ascii_whitespace gap) (line_ends line_end (suc count)) gap

-- the output for a text from an offset on, which contains these entries; `blank_lines` is the option for the text before the first
-- one
abbrev pub rest_in_style : List ℕ → Style → Option ℕ → List ℕ → ℕ → List EntryReading → List ℕ
rest_in_style line_end style blank_lines text at [] = drop at text
rest_in_style line_end style blank_lines text at (e ∷ es) =
    gap_in_style line_end blank_lines (between (place text at) (place text e.start))
    ++ (entry_in_style line_end style text e ++ rest_in_style line_end style style.blank_lines text (e.end + 1) es)

-- a text in one style, given its reading; the text before the first entry is unchanged
abbrev pub text_in_style : Style → List ℕ → FileReading → List ℕ
text_in_style style text says = rest_in_style (line_end_of text) style None text 0 says.entries

-- an entry with its fields in the order of the style, unless it is copied
abbrev pub entry_in_order : Style → List ℕ → EntryReading → EntryReading
entry_in_order style text e = cond (is_copied text e) e (record e { fields = in_order (order_of style) e.fields })

-- a reading with the fields of each entry in the order of the style, except in entries that are copied
abbrev pub says_in_order : Style → List ℕ → FileReading → FileReading
says_in_order style text says = record says { entries = map (entry_in_order style text) says.entries }

-- a part of a text in ASCII lowercase
abbrev pub part_in_lowercase : Part → Part
part_in_lowercase p = record p { text = str_to_ascii_lowercase p.text }

-- a field with the ASCII letters of its name in lowercase
abbrev pub field_in_lowercase : FieldReading → FieldReading
field_in_lowercase f = record f { name = part_in_lowercase f.name }

-- an entry with the ASCII letters of its type and of the names of its fields in lowercase
abbrev pub entry_in_lowercase : EntryReading → EntryReading
entry_in_lowercase e = record e { kind = part_in_lowercase e.kind; fields = map field_in_lowercase e.fields }

-- an entry with the ASCII letters of its type and of the names of its fields in lowercase, and without spans (all offsets are 0)
abbrev pub entry_content : EntryReading → EntryReading
entry_content e = moved_entry (λ at. 0) (entry_in_lowercase e)

-- a reading without spans, with the ASCII letters of entry types and field names in lowercase
abbrev pub content : FileReading → FileReading
content says = record {
  preamble = says.preamble;
  entries = map entry_content says.entries;
  abbreviations = map (moved_field (λ at. 0)) says.abbreviations;
}

-- a text parses to this reading, except for spans and the ASCII case of entry types and field names
pub record IsReadAlike (says : FileReading) (text : List ℕ) : Type 0 where
  pub tells : FileReading
  pub read : IsRawReading text tells
  pub alike : content tells ≡ content says

-- `new` is this text in one style, by the reading of the text; it parses to the expected reading
pub record IsTextInStyle (style : Style) (text new : List ℕ) : Type 0 where
  pub says : FileReading
  pub read : IsRawReading text says
  pub is : new ≡ text_in_style style text says
  pub alike : IsReadAlike (says_in_order style text says) new
