-- Meaning: words of public contracts.
-- The fields that BibLaTeX requires of an entry, by its type: the mandatory fields of its default data model (blx-dm.def of BibLaTeX
-- 3.18b).
use Rattle.std.specs.Prelude.{ℕ, Bool, not, find, List, [], ◌∷◌, ◌++◌, if◌then◌else◌, map}
use Rattle.std.specs.List.{filter, list_any}
use Rattle.std.specs.Option.{option_map_or}
use Rattle.bib_entry.specs.Reports.{has_field}
use Rattle.bib_entry.specs.declared.entry.Entry.{Entry}
use Rattle.bib_tables.specs.Requirements.{Names, fields}
use Rattle.bib_syntax.specs.Reading.{EntryReading}
use Rattle.bib_findings.specs.Entries.{is_empty_value, has_own_field, last_named}
use Rattle.bib_findings.specs.Nearest.{is_known_name}

-- The fields of which an entry needs one. A finding names the first that is in the file but empty, or else the first. The others replace
-- the first: those that the data model accepts in its place, BibTeX's names, and for the author of a whole book its editor, whom BibLaTeX
-- prints in the author's place.
abbrev pub Demand : Type 0
Demand = Names

-- types, and the requirements of entries with one of them, besides a date
abbrev pub demands_by_type : List (Names × List Demand)
demands_by_type =
    (fields "article", fields "author" ∷ fields "title" ∷ fields "journaltitle journal" ∷ [])
    ∷ (fields "book mvbook", fields "author editor" ∷ fields "title" ∷ [])
    ∷ (fields "inbook bookinbook suppbook", fields "author" ∷ fields "title" ∷ fields "booktitle" ∷ [])
    ∷ (fields "booklet", fields "author editor" ∷ fields "title" ∷ [])
    ∷ (fields "collection reference mvcollection mvreference periodical", fields "editor" ∷ fields "title" ∷ [])
    ∷ (fields "incollection suppcollection inreference", fields "author" ∷ fields "editor" ∷ fields "title" ∷ fields "booktitle" ∷ [])
    ∷ (fields "dataset manual misc software proceedings mvproceedings", fields "title" ∷ [])
    ∷ (fields "online electronic www", fields "title" ∷ fields "url doi eprint" ∷ [])
    ∷ (fields "patent", fields "author" ∷ fields "title" ∷ fields "number" ∷ [])
    ∷ (fields "inproceedings conference", fields "author" ∷ fields "title" ∷ fields "booktitle" ∷ [])
    ∷ (fields "report thesis", fields "author" ∷ fields "title" ∷ fields "type" ∷ fields "institution school" ∷ [])
    ∷ (fields "techreport mastersthesis phdthesis", fields "author" ∷ fields "title" ∷ fields "institution school" ∷ [])
    ∷ (fields "unpublished", fields "author" ∷ fields "title" ∷ [])
    ∷ (fields "set", fields "entryset" ∷ [])
    ∷ []

-- the types that require a date, or a year. Biber's data model requires one for `set`, too, but Biber copies the date of the first member
-- to the set, except as a tool
abbrev pub dated_types : Names
dated_types = fields "article book mvbook inbook bookinbook suppbook booklet collection mvcollection incollection suppcollection manual"
    ++ (fields "misc online electronic www patent periodical suppperiodical proceedings inproceedings conference reference inreference"
    ++ fields "report techreport thesis mastersthesis phdthesis unpublished")

-- the requirements of a type, besides a date
abbrev pub demands_of : List ℕ → List Demand
demands_of entry_type = option_map_or (λ row. row.1) (find (λ row. is_known_name row.0 entry_type) demands_by_type) []

-- the requirement of a date, if a type requires one
abbrev pub date_demand : List ℕ → List Demand
date_demand entry_type = if is_known_name dated_types entry_type then fields "year date" ∷ [] else []

-- whether an entry has a value of a field: its last field of this name in the file isn't empty, or it has none there and inherits the
-- field. The field in the file may be unreadable.
abbrev pub has_value : EntryReading → Entry → List ℕ → Bool
has_value said entry name = option_map_or (λ f. not (is_empty_value f)) (last_named said.fields name) (has_field entry name)

-- whether an entry has a value of one of these fields
abbrev pub is_met : EntryReading → Entry → Demand → Bool
is_met said entry demand = list_any (has_value said entry) demand

-- the requirements of a type
abbrev pub all_demands : List ℕ → List Demand
all_demands entry_type = demands_of entry_type ++ date_demand entry_type

-- the first field of a requirement
abbrev pub leading_field : Demand → List ℕ
leading_field [] = []
leading_field (name ∷ others) = name

-- the field that a finding names for a requirement: the first that the entry has in the file, or else the first
abbrev pub demanded_field : EntryReading → Demand → List ℕ
demanded_field said demand = option_map_or (λ name. name) (find (has_own_field said) demand) (leading_field demand)

-- the fields that findings name for those of the requirements that an entry doesn't meet
abbrev pub unmet_fields : EntryReading → Entry → List Demand → Names
unmet_fields said entry demands = map (demanded_field said) (filter (λ demand. not (is_met said entry demand)) demands)

-- the fields that findings name for the requirements that an entry doesn't meet
abbrev pub missing_fields : EntryReading → Entry → Names
missing_fields said entry = unmet_fields said entry (all_demands said.kind.text)
