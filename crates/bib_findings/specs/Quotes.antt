-- Meaning: words of public contracts.
-- The findings of texts in quotes whose braces aren't balanced, in the fields of entries and in definitions of abbreviations. BibTeX and
-- Biber don't end a text in quotes at a quote in braces, and report an error at a closing brace that has no opening one.
use Rattle.std.specs.Prelude.{ℕ, List, [], ◌∷◌, ◌++◌, codes, find, Option, None, Some, option_map}
use Rattle.std.specs.declared.ops.Range.{Range}
use Rattle.std.specs.List.{flat_map}
use Rattle.bib_syntax.specs.Reading.{EntryReading, FieldReading, Piece}
use Rattle.bib_syntax.specs.Reading.Piece.{abbreviation, literal}
use Rattle.bib_queries.specs.Quotes.{is_unbalanced_quote}
use Rattle.bib_findings.specs.Entries.{part_range}
use Rattle.bib_findings.specs.Errors.{finding_at}
use Rattle.bib_findings.specs.Fields.{named_message}
use Rattle.bib_findings.specs.declared.codes.Code.TheVariants.{UnbalancedQuote}
use Rattle.bib_findings.specs.declared.finding.Finding.{Finding}

-- the end of the message: what is wrong, how BibTeX and Biber read it, and what to do
abbrev pub quote_note : List ℕ
quote_note =
    codes " has unbalanced braces in quotes, so BibTeX and Biber may end the text elsewhere; "
    ++ codes "write it in braces, with as many closing braces as opening ones"

-- the message about a field with this name, of the entry with this key
abbrev pub quote_message : List ℕ → List ℕ → List ℕ
quote_message key name = named_message key (codes "field ") name quote_note

-- the message about a definition of an abbreviation that has this name
abbrev pub defined_quote_message : List ℕ → List ℕ
defined_quote_message name = codes "definition of `" ++ (name ++ (codes "`" ++ quote_note))

-- the byte range of a piece, without its quotes or braces
abbrev pub piece_range : Piece → Range ℕ
piece_range (literal p) = part_range p
piece_range (abbreviation p) = part_range p

-- the byte range of the first piece of a value that is in quotes, and whose braces aren't balanced
abbrev pub unbalanced_range : List ℕ → FieldReading → Option (Range ℕ)
unbalanced_range text f = option_map piece_range (find (is_unbalanced_quote text) f.value.pieces)

-- the finding with this message at a byte range, if there is one
abbrev pub quote_finding : List ℕ → Option (Range ℕ) → List Finding
quote_finding message None = []
quote_finding message (Some span) = finding_at UnbalancedQuote span message ∷ []

-- the finding of a field of the entry with this key, at the first such text in quotes
abbrev pub field_quote : List ℕ → List ℕ → FieldReading → List Finding
field_quote text key f = quote_finding (quote_message key f.name.text) (unbalanced_range text f)

-- the findings of the fields of an entry
abbrev pub entry_quotes : List ℕ → EntryReading → List Finding
entry_quotes text said = flat_map (field_quote text said.key.text) said.fields

-- the findings of the fields of entries of a file with this text
abbrev pub quote_findings : List ℕ → List EntryReading → List Finding
quote_findings text entries = flat_map (entry_quotes text) entries

-- the finding of a definition, at the first such text in quotes
abbrev pub defined_quote : List ℕ → FieldReading → List Finding
defined_quote text f = quote_finding (defined_quote_message f.name.text) (unbalanced_range text f)

-- the findings of the definitions of abbreviations of a file with this text
abbrev pub defined_quotes : List ℕ → List FieldReading → List Finding
defined_quotes text definitions = flat_map (defined_quote text) definitions
