-- Meaning: words of public contracts.
-- The findings of abbreviations that `@string` defines, and that no field of an entry and no definition of another abbreviation uses. The
-- ASCII case of their names doesn't count.
use Rattle.std.specs.Prelude.{ℕ, Bool, not, ◌==◌, ◌||◌, List, [], ◌∷◌, ◌++◌, codes, if◌then◌else◌, length}
use Rattle.std.specs.List.{flat_map, list_any}
use Rattle.std.specs.Str.{str_eq_ignore_ascii_case}
use Rattle.bib_tables.specs.Requirements.{Names}
use Rattle.bib_syntax.specs.Reading.{EntryReading, FieldReading, FileReading, Piece}
use Rattle.bib_syntax.specs.Reading.Piece.{abbreviation, literal}
use Rattle.bib_syntax.specs.declared.raw.recovery.SkippedBlock.{SkippedBlock}
use Rattle.bib_findings.specs.After.{each_after}
use Rattle.bib_findings.specs.Entries.{have_one_name, part_range}
use Rattle.bib_findings.specs.Errors.{finding_at}
use Rattle.bib_findings.specs.declared.codes.Code.TheVariants.{UnusedDefinition}
use Rattle.bib_findings.specs.declared.finding.Finding.{Finding}

-- the name of a piece that is an abbreviation
abbrev pub abbreviation_in : Piece → Names
abbreviation_in (literal p) = []
abbreviation_in (abbreviation p) = p.text ∷ []

-- the names of the abbreviations in the value of a field
abbrev pub abbreviations_in : FieldReading → Names
abbreviations_in f = flat_map abbreviation_in f.value.pieces

-- the names of the abbreviations in the fields of an entry
abbrev pub used_by_entry : EntryReading → Names
used_by_entry said = flat_map abbreviations_in said.fields

-- the name of a piece that is an abbreviation, except the abbreviation `own`
abbrev pub other_abbreviation_in : List ℕ → Piece → Names
other_abbreviation_in own (literal p) = []
other_abbreviation_in own (abbreviation p) = if str_eq_ignore_ascii_case p.text own then [] else p.text ∷ []

-- the names of the abbreviations in the value of a definition, except its own
abbrev pub used_by_definition : FieldReading → Names
used_by_definition f = flat_map (other_abbreviation_in f.name.text) f.value.pieces

-- the names of the abbreviations that the entries of a file use, or its definitions of other abbreviations
abbrev pub used_abbreviations : FileReading → Names
used_abbreviations says = flat_map used_by_entry says.entries ++ flat_map used_by_definition says.abbreviations

-- whether these names contain that of a definition
abbrev pub is_used_abbreviation : Names → FieldReading → Bool
is_used_abbreviation used f = list_any (str_eq_ignore_ascii_case f.name.text) used

-- the message about an abbreviation with this name
abbrev pub unused_message : List ℕ → List ℕ
unused_message name = codes "no field uses the abbreviation `" ++ (name ++ codes "`")

-- the finding of a definition of an abbreviation that nothing uses, at its name
abbrev pub unused_definition_finding : FieldReading → Finding
unused_definition_finding f = finding_at UnusedDefinition (part_range f.name) (unused_message f.name.text)

-- the finding of a definition if its abbreviation isn't used, and none of the earlier definitions is of the same abbreviation
abbrev pub unused_after : Names → List FieldReading → FieldReading → List Finding
unused_after used earlier f =
    if is_used_abbreviation used f || list_any (have_one_name f) earlier then [] else unused_definition_finding f ∷ []

-- the findings of the abbreviations that no field of an entry and no definition of another abbreviation uses: one for each, at its first
-- definition. A text without an entry may be meant for other files, and a skipped block may use any abbreviation, so such texts have no
-- such finding
abbrev pub unused_definition_findings : FileReading → List SkippedBlock → List Finding
unused_definition_findings says skipped =
    if length says.entries == 0 || not (length skipped == 0) then []
    else each_after (unused_after (used_abbreviations says)) [] says.abbreviations
