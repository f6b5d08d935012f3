-- Meaning: words of public contracts.
-- The text of a file with LaTeX commands for accents and letters as characters, or such characters as commands: the changes of its fields.
use Rattle.std.specs.Prelude.{◌==◌, ◌&&◌, ◌||◌, ℕ, Bool, false, not, if◌then◌else◌, List, map, bytes_eq, codes, Some, None, encode_utf8_all}
use Rattle.std.specs.List.{list_any}
use Rattle.std.specs.Str.{chars, str_eq_ignore_ascii_case, str_to_ascii_lowercase}
use Rattle.bib_syntax.specs.Reading.{Piece, FieldReading}
use Rattle.bib_syntax.specs.Reading.Piece.{literal, abbreviation}
use Rattle.bib_tables.specs.ReferenceFields.{is_reference_field}
use Rattle.bib_tables.specs.VerbatimFields.{is_verbatim_field}
use Rattle.bib_text.specs.Characters as char
use Rattle.edit_entries.specs.Changes.{IsChanged, NewValue}
use Rattle.edit_entries.specs.Documents.{Document}
use Rattle.edit_strings.specs.Exchanged.{Exchange, exchanges}
use Rattle.edit_strings.specs.Expanded.{laid_out}
use Rattle.edit_accents.specs.Accents.{is_beyond_ascii, with_characters}
use Rattle.edit_accents.specs.Encoded.{with_commands}
use Rattle.edit_accents.specs.declared.recoding.Form.{Form}
use Rattle.edit_accents.specs.declared.recoding.Form.TheVariants.{Characters, Commands}

-- a text with its accents and letters in a form
abbrev pub with_form : Form → List ℕ → List ℕ
with_form Characters text = with_characters text
with_form Commands text = with_commands text

-- whether a byte shows that a text may change: the backslash of a command, or a byte of a character beyond ASCII
abbrev pub is_other_form : Form → ℕ → Bool
is_other_form Characters b = b == char.backslash
is_other_form Commands b = is_beyond_ascii b

-- whether a text contains a byte that shows that it may change
abbrev pub has_other_form : Form → List ℕ → Bool
has_other_form form text = list_any (is_other_form form) text

-- the bytes of a literal with its accents and letters in a form
abbrev pub text_recoded : Form → List ℕ → List ℕ
text_recoded form text = if has_other_form form text then encode_utf8_all (with_form form (chars text)) else text

-- a piece of a value: a literal is recoded
abbrev pub piece_recoded : Form → Piece → Piece
piece_recoded form (literal p) = literal (record p { text = text_recoded form p.text })
piece_recoded form (abbreviation p) = abbreviation p

-- whether a piece changes
abbrev pub changes_piece : Form → Piece → Bool
changes_piece form (literal p) = not (bytes_eq (text_recoded form p.text) p.text)
changes_piece form (abbreviation p) = false

-- whether a field with this name is one of four fields of other programs, whose values also occur elsewhere. They contain groups of JabRef,
-- groups or tags of Mendeley, or the path of a file for BibDesk.
abbrev pub is_program_field : List ℕ → Bool
is_program_field name =
    str_eq_ignore_ascii_case name (codes "groups") || str_eq_ignore_ascii_case name (codes "mendeley-groups")
    || str_eq_ignore_ascii_case name (codes "mendeley-tags") || str_eq_ignore_ascii_case name (codes "local-url")

-- whether the value of a field with a name lists keys of entries or keywords, or the field is in `is_program_field`
abbrev pub is_kept_field : List ℕ → Bool
is_kept_field name =
    is_reference_field name || str_eq_ignore_ascii_case name (codes "ids") || str_eq_ignore_ascii_case name (codes "keywords")
    || is_program_field name

-- whether the value of a field may change: verbatim fields, fields with keys or keywords and four fields of other programs stay the same
abbrev pub is_recodable_field : FieldReading → Bool
is_recodable_field f = not (is_verbatim_field (str_to_ascii_lowercase f.name.text)) && not (is_kept_field f.name.text)

-- whether the value of a field changes: it may, and a piece does
abbrev pub changes_value : Form → FieldReading → Bool
changes_value form f = is_recodable_field f && list_any (changes_piece form) f.value.pieces

-- the new value of a field: each piece with its delimiters in the file, and ` # ` between two pieces
abbrev pub value_recoded : Form → List ℕ → FieldReading → NewValue
value_recoded form text f =
    let pieces : List Piece = map (piece_recoded form) f.value.pieces in
    record { bytes = laid_out text pieces; pieces = pieces }

-- the values that change
abbrev pub recoding : Form → List ℕ → Exchange
recoding form text f = if changes_value form f then Some (value_recoded form text f) else None

-- a text is that of a document with the accents and letters in its entries written in a form. It parses to entries with these values,
-- except for byte offsets
abbrev pub IsRecoded : Form → Document → List ℕ → Type 0
IsRecoded form d text = IsChanged (λ e. exchanges (recoding form d.text) e) d text
