-- Meaning: words of public contracts.
-- The findings of abbreviations that `@string` defines again with another value. BibTeX and Biber match the names of abbreviations in any
-- ASCII case, and use the last definition before an entry: the value of an abbreviation differs before and after such a definition.
use Rattle.std.specs.Prelude.{ℕ, Bool, false, not, List, [], ◌∷◌, ◌++◌, codes, find, if◌then◌else◌, reverse, Option}
use Rattle.std.specs.Option.{option_map_or}
use Rattle.bib_syntax.specs.Reading.{FieldReading}
use Rattle.bib_queries.specs.EqualValues.{are_equal_pieces}
use Rattle.bib_findings.specs.After.{each_after}
use Rattle.bib_findings.specs.Entries.{have_one_name, part_range}
use Rattle.bib_findings.specs.Errors.{finding_at}
use Rattle.bib_findings.specs.declared.codes.Code.TheVariants.{RepeatedDefinition}
use Rattle.bib_findings.specs.declared.finding.Finding.{Finding}

-- whether two definitions have different values
abbrev pub have_other_values : FieldReading → FieldReading → Bool
have_other_values f g = not (are_equal_pieces f.value.pieces g.value.pieces)

-- the last earlier definition of the same abbreviation, in any ASCII case
abbrev pub definition_before : List FieldReading → FieldReading → Option FieldReading
definition_before earlier f = find (have_one_name f) (reverse earlier)

-- the message about a definition of an abbreviation that has this name
abbrev pub definition_message : List ℕ → List ℕ
definition_message name =
    codes "definition of `" ++ (name ++ codes "` occurs again with another value; BibTeX and Biber use it for later entries")

-- the finding of a definition whose abbreviation had another value, at its name
abbrev pub definition_finding : FieldReading → Finding
definition_finding f = finding_at RepeatedDefinition (part_range f.name) (definition_message f.name.text)

-- the finding of a definition, if the last earlier one of the same abbreviation exists and has another value
abbrev pub finding_after : Option FieldReading → FieldReading → List Finding
finding_after last f = if option_map_or (have_other_values f) last false then definition_finding f ∷ [] else []

-- the finding of a definition after these earlier ones
abbrev pub definition_after : List FieldReading → FieldReading → List Finding
definition_after earlier f = finding_after (definition_before earlier f) f

-- the findings of the definitions of a file, in order
abbrev pub definition_findings : List FieldReading → List Finding
definition_findings definitions = each_after definition_after [] definitions
