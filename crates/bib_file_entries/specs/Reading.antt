-- Machinery: words of private contracts.
-- Parsing one field.
use Rattle.bib_abbreviations.specs.Abbreviations.{Definitions, IsContentsError}
use Rattle.bib_tables.specs.VerbatimFields.{is_verbatim_field}
use Rattle.bib_syntax.specs.declared.raw.Pair.{Pair}
use Rattle.bib_syntax.specs.declared.raw.ParseError.{ParseError}
use Rattle.bib_file_entries.specs.Loading.{field_name, pieces_of}

-- a field can't be parsed, and this is its first error
abbrev pub IsFieldError : Definitions → Pair → ParseError → Type 0
IsFieldError definitions p e = IsContentsError definitions (is_verbatim_field (field_name p)) (pieces_of p) e
