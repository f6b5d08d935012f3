-- Meaning: words of public contracts.
-- The findings of fields that are repeated or empty, of empty keys, and of DOIs with an address or a scheme.
use Rattle.std.specs.Prelude.{ℕ, Bool, not, ◌==◌, ◌&&◌, ◌||◌, List, [], ◌∷◌, ◌++◌, codes, if◌then◌else◌, length}
use Rattle.std.specs.List.{flat_map, list_any}
use Rattle.bib_tables.specs.Requirements.{Names, fields}
use Rattle.bib_syntax.specs.Reading.{EntryReading, FieldReading}
use Rattle.bib_findings.specs.After.{each_after}
use Rattle.bib_findings.specs.Entries.{field_place, has_own_field, have_one_name, is_empty_value, part_range}
use Rattle.bib_findings.specs.EntryNames.{entry_name}
use Rattle.bib_findings.specs.Errors.{finding_at}
use Rattle.bib_findings.specs.Foreign.{begins_in_any_case}
use Rattle.bib_findings.specs.Identities.{own_literal}
use Rattle.bib_findings.specs.MalformedDates.{fields_of_dates}
use Rattle.bib_findings.specs.Nearest.{is_known_name}
use Rattle.bib_findings.specs.declared.codes.Code.TheVariants.{RepeatedField, EmptyField, DoiAddress, EmptyKey}
use Rattle.bib_findings.specs.declared.finding.Finding.{Finding}

-- the message about a name of the entry with this key, with words before and after the name
abbrev pub named_message : List ℕ → List ℕ → List ℕ → List ℕ → List ℕ
named_message key before name after = entry_name key ++ (codes ": " ++ (before ++ (codes "`" ++ (name ++ (codes "`" ++ after)))))

-- the finding of a field whose name an earlier field of the entry has: BibTeX keeps the first of these fields, Biber and this library the
-- last
abbrev pub repeated_finding : List ℕ → FieldReading → Finding
repeated_finding key f =
    finding_at RepeatedField (part_range f.name)
    (named_message key (codes "field ") f.name.text (codes " occurs again; BibTeX keeps the first, Biber the last"))

-- the finding of a field if one of the earlier fields has its name, in any ASCII case
abbrev pub repeated_after : List ℕ → List FieldReading → FieldReading → List Finding
repeated_after key earlier f = if list_any (have_one_name f) earlier then repeated_finding key f ∷ [] else []

-- the findings of the repeated fields of an entry
abbrev pub repeated_findings : EntryReading → List Finding
repeated_findings said = each_after (repeated_after said.key.text) [] said.fields

-- the finding of an empty field
abbrev pub empty_finding : List ℕ → FieldReading → Finding
empty_finding key f = finding_at EmptyField (part_range f.name) (named_message key (codes "field ") f.name.text (codes " is empty"))

-- whether an empty field with this name is reported: any field if the entry can inherit fields, otherwise only a date
abbrev pub is_reported_empty : Bool → List ℕ → Bool
is_reported_empty inherits name = inherits || is_known_name fields_of_dates name

-- the finding of a field if its value is empty, such a field is reported if empty, and its name isn't one of the missing fields
abbrev pub empty_of : List ℕ → Names → Bool → FieldReading → List Finding
empty_of key missing inherits f =
    if is_empty_value f && (is_reported_empty inherits f.name.text && not (is_known_name missing f.name.text))
    then empty_finding key f ∷ [] else []

-- whether an entry has a field by which it inherits other fields
abbrev pub refers_to_parents : EntryReading → Bool
refers_to_parents said = has_own_field said (codes "crossref") || has_own_field said (codes "xdata")

-- the findings of the empty fields of an entry, except those that are reported as missing. They are reported in an entry that can inherit
-- fields, because BibTeX and this library inherit no value for an empty field, but Biber does. In other entries, only empty dates are
-- reported: this library doesn't use the year of the entry instead, but Biber does
abbrev pub empty_findings : Names → EntryReading → List Finding
empty_findings missing said = flat_map (empty_of said.key.text missing (refers_to_parents said)) said.fields

-- the ways in which a DOI with an address or a scheme begins
abbrev pub address_starts : Names
address_starts = fields "http:// https:// doi:"

-- the finding of a DOI that is one literal and begins with an address or a scheme, in any ASCII case. BibLaTeX puts an address before the
-- field (biblatex.def, the format of the field `doi`), so the link is wrong
abbrev pub address_findings : EntryReading → List Finding
address_findings said =
    if list_any (λ start. begins_in_any_case start (own_literal said (codes "doi"))) address_starts
    then finding_at DoiAddress (field_place said (codes "doi"))
    (named_message said.key.text [] (codes "doi") (codes " doesn't begin with `10.`; BibLaTeX puts `https://doi.org/` before it")) ∷ []
    else []

-- the finding of an entry with an empty key
abbrev pub key_findings : EntryReading → List Finding
key_findings said =
    if length said.key.text == 0 then finding_at EmptyKey (part_range said.key) (codes "an entry without a key; Biber skips it") ∷ []
    else []
