-- Meaning: words of public contracts.
-- The findings of keys that equal an earlier key except for ASCII case: BibTeX reports a repeated entry, and skips the later one.
use Rattle.std.specs.Prelude.{ℕ, Bool, List, [], ◌∷◌, codes, find}
use Rattle.std.specs.Option.{option_map_or}
use Rattle.std.specs.Str.{str_eq_ignore_ascii_case}
use Rattle.bib_syntax.specs.Reading.{EntryReading}
use Rattle.bib_findings.specs.After.{each_after}
use Rattle.bib_findings.specs.Entries.{part_range}
use Rattle.bib_findings.specs.Errors.{finding_at}
use Rattle.bib_findings.specs.Fields.{named_message}
use Rattle.bib_findings.specs.declared.codes.Code.TheVariants.{KeyCase}
use Rattle.bib_findings.specs.declared.finding.Finding.{Finding}

-- whether the keys of two entries are the same except for ASCII case
abbrev pub have_one_key : EntryReading → EntryReading → Bool
have_one_key said other = str_eq_ignore_ascii_case said.key.text other.key.text

-- the finding of an entry whose key differs from the key `first` only in ASCII case, at its key
abbrev pub case_finding : EntryReading → List ℕ → Finding
case_finding said first =
    finding_at KeyCase (part_range said.key) (named_message said.key.text (codes "key differs from ") first (codes " only in case"))

-- the finding of an entry if the key of an earlier one is the same except for ASCII case; it names the first of these keys
abbrev pub case_after : List EntryReading → EntryReading → List Finding
case_after earlier said = option_map_or (λ first. case_finding said first.key.text ∷ []) (find (have_one_key said) earlier) []

-- the findings of the keys of entries that equal the key of an earlier one except for ASCII case
abbrev pub case_findings : List EntryReading → List Finding
case_findings entries = each_after case_after [] entries
