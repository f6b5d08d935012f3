-- Meaning: words of public contracts.
-- Texts in quotes whose braces aren't balanced. BibTeX and Biber end a text in quotes at the first quote outside of braces. This library
-- and bibtool end it at the first quote that no backslash escapes. So the end of such a text can depend on the program.
use Rattle.std.specs.Prelude.{ℕ, ◌-◌, ◌&&◌, not, Bool, false, List}
use Rattle.std.specs.List.{list_any}
use Rattle.bib_text.specs.Characters as char
use Rattle.bib_syntax.specs.Reading.{EntryReading, FieldReading, Piece}
use Rattle.bib_syntax.specs.Reading.Piece.{abbreviation, literal}
use Rattle.bib_queries.specs.Balance.{is_balanced}
use Rattle.bib_queries.specs.Bytes.{has_byte_at}

-- whether a piece is in quotes, and its braces aren't balanced
abbrev pub is_unbalanced_quote : List ℕ → Piece → Bool
is_unbalanced_quote text (literal p) = has_byte_at text (p.start - 1) char.quote && not (is_balanced p.text)
is_unbalanced_quote text (abbreviation p) = false

-- whether a field contains a piece in quotes whose braces aren't balanced
abbrev pub has_unbalanced_quote : List ℕ → FieldReading → Bool
has_unbalanced_quote text f = list_any (is_unbalanced_quote text) f.value.pieces

-- whether an entry contains a piece in quotes whose braces aren't balanced
abbrev pub contains_unbalanced_quote : List ℕ → EntryReading → Bool
contains_unbalanced_quote text e = list_any (has_unbalanced_quote text) e.fields
