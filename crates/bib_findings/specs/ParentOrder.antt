-- Meaning: words of public contracts.
-- The findings of entries whose `crossref` names an earlier entry. If the document doesn't cite this parent itself, BibTeX reports a bad
-- cross reference, and the entry inherits nothing. Biber inherits as usual.
use Rattle.std.specs.Prelude.{ℕ, Bool, not, ◌==◌, ◌&&◌, List, [], ◌∷◌, ◌++◌, codes, length, if◌then◌else◌}
use Rattle.std.specs.List.{filter, list_any}
use Rattle.std.specs.Str.{str_eq_ignore_ascii_case, trim}
use Rattle.bib_tables.specs.Requirements.{Names, fields}
use Rattle.bib_syntax.specs.Reading.{EntryReading}
use Rattle.bib_findings.specs.After.{each_after}
use Rattle.bib_findings.specs.Entries.{field_place}
use Rattle.bib_findings.specs.Errors.{finding_at}
use Rattle.bib_findings.specs.Fields.{named_message}
use Rattle.bib_findings.specs.Identities.{own_literal}
use Rattle.bib_findings.specs.Nearest.{is_known_name}
use Rattle.bib_findings.specs.declared.codes.Code.TheVariants.{EarlyParent}
use Rattle.bib_findings.specs.declared.finding.Finding.{Finding}

-- the entry types of BibTeX's standard styles, such as plain.bst
abbrev pub bibtex_types : Names
bibtex_types = fields "article book booklet conference inbook incollection inproceedings manual mastersthesis misc phdthesis"
    ++ fields "proceedings techreport unpublished"

-- whether BibTeX's standard styles have the type of an entry, in any ASCII case
abbrev pub has_bibtex_type : EntryReading → Bool
has_bibtex_type said = is_known_name bibtex_types said.kind.text

-- the `crossref` of an entry without the white space around it; the empty text if the entry has none as one literal
abbrev pub parent_key : EntryReading → List ℕ
parent_key said = trim (own_literal said (codes "crossref"))

-- whether an entry has this key, in any ASCII case
abbrev pub is_key_of : List ℕ → EntryReading → Bool
is_key_of key said = str_eq_ignore_ascii_case key said.key.text

-- the finding of an entry whose `crossref` names this key of an earlier entry
abbrev pub early_finding : EntryReading → List ℕ → Finding
early_finding said parent =
    finding_at EarlyParent (field_place said (codes "crossref"))
    (named_message said.key.text (codes "the parent ") parent (codes " comes first; BibTeX finds it only if it is cited too"))

-- whether an entry has a `crossref` that is one literal and not blank
abbrev pub has_parent : EntryReading → Bool
has_parent said = not (length (parent_key said) == 0)

-- the finding of an entry if its `crossref` is one literal, and is the key of one of the earlier entries in any ASCII case
abbrev pub early_after : List EntryReading → EntryReading → List Finding
early_after earlier said =
    let parent : List ℕ = parent_key said in
    if has_parent said && list_any (is_key_of parent) earlier then early_finding said parent ∷ [] else []

-- the findings of each of these entries whose `crossref` is one literal, and is the key of an earlier one in any ASCII case
abbrev pub early_among : List EntryReading → List Finding
early_among entries = each_after early_after [] entries

-- the findings of the entries with a type of BibTeX's standard styles whose `crossref` is one literal, and is the key of an earlier such
-- entry in any ASCII case. If one of the two has another type, the file is likely meant for BibLaTeX
abbrev pub early_findings : List EntryReading → List Finding
early_findings entries = early_among (filter has_bibtex_type entries)
