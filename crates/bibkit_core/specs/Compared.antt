-- Meaning: words of public contracts.
-- The citations of a document, compared with the entries of files.
use Rattle.std.specs.Prelude.{◌≡◌, ◌&&◌, ℕ, Bool, not, if◌then◌else◌, List, [], ◌∷◌, ◌++◌, MatchBool, Option, Some, codes, eqb, filter, map, string_bytes}
use Rattle.std.specs.List.{ends_with, list_any}
use Rattle.bib_source.specs.declared.decoding.Decoded.{Decoded}
use Rattle.bib_queries.specs.Citations.{AreAuxCitations, AreBcfCitations}
use Rattle.bib_queries.specs.Known.{all_names, uncited_keys}
use Rattle.bib_queries.specs.Needed.{is_listed}
use Rattle.bib_queries.specs.declared.citations.Citation.{Citation}
use Rattle.bib_queries.specs.declared.citations.Citations.{Citations}
use Rattle.bib_findings.specs.declared.codes.Code.TheVariants.{MissingEntry, UnusedEntry}
use Rattle.bib_findings.specs.declared.finding.Finding.{Finding}
use Rattle.bib_syntax.specs.Reading.{EntryReading, FileReading, Part}
use Rattle.bib_syntax.specs.Recovery.{IsFullRecovery}
use Rattle.bib_syntax.specs.declared.raw.recovery.SkippedBlock.{SkippedBlock}
use Rattle.bibkit_core.specs.Asked.{selected_findings}
use Rattle.bibkit_core.specs.Conditions.{AreReportedFindings, findings_of_no_entry}
use Rattle.bibkit_core.specs.Linted.{ArePrinted, off_in}
use Rattle.bibkit_core.specs.Tasks.{AreDecoded, IsEndOfFindings, PrintsFindings, in_file, lint_status, opening}
use Rattle.bibkit_core.specs.declared.request.Lint.{Lint}
use Rattle.bibkit_core.specs.declared.tally.Tally.{Tally}

-- the citations in the file of a document with this name and text: a control file of Biber if the name ends with `.bcf`,
-- otherwise an .aux file
abbrev pub AreCitedBy : List ℕ → List ℕ → Citations → Type 0
AreCitedBy name text found =
    MatchBool (ends_with eqb name (codes ".bcf")) (AreBcfCitations text found) (AreAuxCitations text found)

-- the file of a document is read, with this text and these citations; `reads` relates the state before reading a file, its name,
-- its bytes (`None` for an error) and the state afterwards
pub record ReadsDocument {F : Type 0} (reads : F → List ℕ → Option (List ℕ) → F → Type 0) (files : F) (name : List ℕ)
    (files' : F) (text : List ℕ) (found : Citations) : Type 0 where
  pub bytes : List ℕ
  pub decoded : Decoded
  pub read : reads files name (Some bytes) files'
  pub of_bytes : AreDecoded bytes decoded
  pub text_is : text ≡ string_bytes decoded.text
  pub cited : AreCitedBy name text found

-- the keys of the citations
abbrev pub cited_keys : Citations → List (List ℕ)
cited_keys found = map (λ c. c.key) found.keys.items

-- whether an entry of one of these files has this key, or has it in its field `ids`; an entry with a syntax error has the names in its
-- complete parts
abbrev pub is_in_files : List FileReading → List ℕ → Bool
is_in_files readings key = list_any (λ says. is_listed (all_names says.entries) key) readings

-- the finding of a citation for which no file has an entry
abbrev pub missing_finding : Citation → Finding
missing_finding c = record {
  code = MissingEntry;
  span = record { start = c.at; end = c.at };
  message = codes "no file has an entry \"" ++ (c.key ++ codes "\"");
}

-- the findings of the citations for which none of these files has an entry
abbrev pub missing_findings : List FileReading → List Citation → List Finding
missing_findings readings citations = map missing_finding (filter (λ c. not (is_in_files readings c.key)) citations)

-- the findings of the citations that are the names of none of these entries
abbrev pub missing_among : List EntryReading → List Citation → List Finding
missing_among entries citations = map missing_finding (filter (λ c. not (is_listed (all_names entries) c.key)) citations)

-- the finding of an entry with this key, which the document doesn't cite
abbrev pub unused_finding : Part → Finding
unused_finding key = record {
  code = UnusedEntry;
  span = record { start = key.start; end = key.end };
  message = key.text ++ codes ": never cited";
}

-- the findings of the entries that have no name among the citations; no findings if they aren't requested (`has_unused`), or if the
-- document cites all entries
abbrev pub unused_findings : Bool → Citations → List EntryReading → List Finding
unused_findings has_unused found entries =
    if has_unused && not found.all then map unused_finding (uncited_keys (cited_keys found) entries) else []

-- the state of the comparison: the counts of findings, and the contents of the files so far
pub record ComparisonState : Type 0 where
  pub tally : Tally
  pub readings : List FileReading

-- the state before the first file
abbrev pub none_compared : ComparisonState
none_compared = record { tally = record { errors = 0; warnings = 0; infos = 0 }; readings = [] }

-- the text of the comparison before the files
abbrev pub compared_begins : Lint → ComparisonState → List ℕ
compared_begins lint before = opening lint.style

-- the output for a file: the selected findings of `lint`, and then the selected ones of the entries that the document doesn't cite, at
-- their keys; with conditions, only those about the selected entries
pub record PrintsCompared (lint : Lint) (has_unused : Bool) (found : Citations) (before : ComparisonState)
    (name bytes text : List ℕ) (after : ComparisonState) : Type 0 where
  pub first : List ℕ
  pub second : List ℕ
  pub between : Tally
  pub decoded : Decoded
  pub says : FileReading
  pub skipped : List SkippedBlock
  pub findings : PrintsFindings lint name bytes before.tally first between
  pub of_bytes : AreDecoded bytes decoded
  pub recovery : IsFullRecovery (string_bytes decoded.text) says skipped
  pub kept : List Finding
  pub reported : AreReportedFindings lint.conditions.items (string_bytes decoded.text) (unused_findings has_unused found says.entries) kept
  pub unused : ArePrinted lint.style name (string_bytes decoded.text)
      (selected_findings lint.selection (off_in lint (string_bytes decoded.text)) kept) between second after.tally
  pub is : text ≡ in_file lint.style name (first ++ second)
  pub readings : after.readings ≡ before.readings ++ says ∷ []

-- the output after all files, and the status. Without conditions, the selected findings of the citations for which no file has an entry
-- come first, at their positions in the file of the document. The text after findings follows.
pub record EndsCompared (lint : Lint) (name document : List ℕ) (found : Citations) (before : ComparisonState) (text : List ℕ)
    (status : ℕ) : Type 0 where
  pub first : List ℕ
  pub after : Tally
  pub missing : ArePrinted lint.style name document
      (selected_findings lint.selection [] (findings_of_no_entry lint.conditions.items (missing_findings before.readings found.keys.items)))
      before.tally first after
  pub last : List ℕ
  pub closes : IsEndOfFindings lint.style after last
  pub is : text ≡ in_file lint.style name first ++ last
  pub status_is : status ≡ lint_status lint.fail_on after
