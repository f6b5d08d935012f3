-- Meaning: words of public contracts.
-- Unknown abbreviations whose names are defined in another ASCII case. BibTeX and Biber match the names of abbreviations in any ASCII case,
-- and use the last definition before an abbreviation; this library matches them exactly.
use Rattle.std.specs.Prelude.{ℕ, List, [], ◌++◌, codes, find, if◌then◌else◌, nat_le, reverse, Option}
use Rattle.std.specs.Option.{option_map_or}
use Rattle.std.specs.Str.{str_eq_ignore_ascii_case}
use Rattle.bib_syntax.specs.Reading.{FieldReading}
use Rattle.bib_syntax.specs.declared.raw.ParseError.{ParseError}
use Rattle.bib_syntax.specs.declared.raw.ParseErrorKind.{ParseErrorKind}
use Rattle.bib_syntax.specs.declared.raw.ParseErrorKind.TheVariants.{UnknownAbbreviation}

-- the last definition with this name, in any ASCII case
abbrev pub last_defined : List FieldReading → List ℕ → Option FieldReading
last_defined definitions name = find (λ f. str_eq_ignore_ascii_case name f.name.text) (reverse definitions)

-- the note about the definition of an abbreviation that has this name
abbrev pub case_note : List ℕ → List ℕ
case_note name = codes "; \"" ++ (name ++ codes "\" is defined, and BibTeX and Biber ignore the case")

-- the note about the last definition of an abbreviation at this offset. It is empty if the definition ends after the offset: BibTeX and
-- Biber then use an earlier one or none, and BibTeX doesn't use an abbreviation in its own definition
abbrev pub definition_note : ℕ → FieldReading → List ℕ
definition_note at f = if nat_le f.value.end at then case_note f.name.text else []

-- the note about an unknown abbreviation with this name at this offset. It is empty unless the last definition of the name, in any ASCII
-- case, ends before the offset
abbrev pub abbreviation_note : List FieldReading → ℕ → List ℕ → List ℕ
abbreviation_note definitions at name = option_map_or (definition_note at) (last_defined definitions name) []

-- the note about an error of this kind at this offset: that of an unknown abbreviation, or else none
abbrev pub kind_note : List FieldReading → ℕ → ParseErrorKind → List ℕ
kind_note definitions at (UnknownAbbreviation name) = abbreviation_note definitions at name
kind_note definitions at _ = []

-- the note about an error
abbrev pub error_note : List FieldReading → ParseError → List ℕ
error_note definitions e = kind_note definitions e.span.start e.kind
