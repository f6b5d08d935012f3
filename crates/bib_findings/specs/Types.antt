-- Meaning: words of public contracts.
-- The entry types that BibLaTeX knows, and the finding of an entry with a misspelled one.
use Rattle.std.specs.Prelude.{ℕ, Bool, List, [], ◌∷◌, ◌++◌, codes, is_some, Option, if◌then◌else◌}
use Rattle.std.specs.Option.{option_map_or}
use Rattle.std.specs.Str.{str_to_ascii_lowercase}
use Rattle.bib_tables.specs.Requirements.{Names, fields}
use Rattle.bib_syntax.specs.Reading.{EntryReading}
use Rattle.bib_findings.specs.Entries.{part_range}
use Rattle.bib_findings.specs.Errors.{finding_at}
use Rattle.bib_findings.specs.Nearest.{is_known_name, suggestion, unknown_message}
use Rattle.bib_findings.specs.declared.codes.Code.TheVariants.{UnknownType}
use Rattle.bib_findings.specs.declared.finding.Finding.{Finding}

-- the entry types of BibLaTeX's default data model (blx-dm.def of BibLaTeX 3.18b), and the other names that it reads for some of them
-- (manual, 2.1.2)
abbrev pub known_types : Names
known_types = fields "article artwork audio bibnote book bookinbook booklet collection commentary conference customa customb customc"
    ++ (fields "customd custome customf dataset electronic image inbook incollection inproceedings inreference jurisdiction legal"
    ++ (fields "legislation letter manual mastersthesis misc movie music mvbook mvcollection mvproceedings mvreference online patent"
    ++ (fields "performance periodical phdthesis proceedings reference report review set software standard suppbook suppcollection"
    ++ fields "suppperiodical techreport thesis unpublished video www xdata")))

-- whether BibLaTeX knows an entry type, in any ASCII case
abbrev pub is_known_type : List ℕ → Bool
is_known_type name = is_known_name known_types name

-- the known type that a type may mean
unfoldable pub meant_type : List ℕ → Option (List ℕ)
meant_type name = suggestion known_types (str_to_ascii_lowercase name)

-- whether there is a known type that a type may mean
abbrev pub has_type_suggestion : List ℕ → Bool
has_type_suggestion name = is_some (meant_type name)

-- the finding of an entry with an unknown type, at the type, with the known type that it may mean
abbrev pub misspelled_type_finding : EntryReading → List ℕ → Finding
misspelled_type_finding said known =
    finding_at UnknownType (part_range said.kind) (unknown_message said.key.text (codes "unknown entry type") said.kind.text known)

-- the same if there is such a known type
abbrev pub meant_type_findings : EntryReading → Option (List ℕ) → List Finding
meant_type_findings said meant = option_map_or (λ known. misspelled_type_finding said known ∷ []) meant []

-- the finding of an entry's type, if the type is unknown and may mean a known one. Other unknown types are reported once in a file
unfoldable pub type_findings : EntryReading → List Finding
type_findings said = if is_known_type said.kind.text then [] else meant_type_findings said (meant_type said.kind.text)
