-- Meaning: words of public contracts.
-- The findings of several files as one database. BibTeX and Biber read the files of a document in turn, as one database. Here a file can
-- use the definitions and the entries of all files, even of later ones.
use Rattle.std.specs.Prelude.{◌≡◌, ℕ, ◌+◌, ◌-◌, List, [], ◌∷◌, ◌++◌, Option, Some, None, drop, fold, length, map, nat_le, string_bytes, take}
use Rattle.std.specs.List.{prefix_len}
use Rattle.bib_findings.specs.Findings.{AreFindingsOf, AreSortedByPlace}
use Rattle.bib_findings.specs.declared.finding.Finding.{Finding}
use Rattle.bib_syntax.specs.Files.{AreFilesRecovered, FilesText, no_files, with_next}
use Rattle.bib_syntax.specs.Reading.{EntryReading, FileReading}
use Rattle.bib_syntax.specs.declared.raw.recovery.SkippedBlock.{SkippedBlock}
use Rattle.bibkit_core.specs.Asked.{selected_findings}
use Rattle.bibkit_core.specs.Compared.{missing_among, unused_findings}
use Rattle.bibkit_core.specs.Conditions.{AreReportedAmong, findings_of_no_entry}
use Rattle.bibkit_core.specs.Linted.{IsPrintedKept, ArePrinted}
use Rattle.bibkit_core.specs.OwnNames.{without_own}
use Rattle.bibkit_core.specs.Tasks.{AreDecoded, IsEndOfFindings, in_file, lint_status, opening}
use Rattle.bibkit_core.specs.declared.cited.Document.{Document}
use Rattle.bibkit_core.specs.declared.database.Database.{Database}
use Rattle.bibkit_core.specs.declared.database.StoredFile.{StoredFile}
use Rattle.bibkit_core.specs.declared.request.Lint.{Lint}
use Rattle.bibkit_core.specs.declared.tally.Tally.{Tally}

-- the decoded texts of these files in one text
abbrev pub joined_texts : List StoredFile → FilesText
joined_texts files = fold (λ texts file. with_next texts (string_bytes file.decoded.text)) no_files files

-- the findings of the entries that the document doesn't cite, if there is a document and they are requested (`has_unused`)
abbrev pub unused_by : Option Document → List EntryReading → List Finding
unused_by None entries = []
unused_by (Some document) entries = unused_findings document.has_unused document.citations entries

-- the findings of the citations of the document that none of these entries has as a name; none without a document
abbrev pub missing_by : Option Document → List EntryReading → List Finding
missing_by None entries = []
missing_by (Some document) entries = missing_among entries document.citations.keys.items

-- `found` are the findings of these files as one database, and those of the entries that the document doesn't cite, in order of their
-- places in the text of all files; of these, `kept` are reported
pub record AreOfDatabase (lint : Lint) (document : Option Document) (texts : FilesText) (says : FileReading) (kept : List Finding)
    : Type 0 where
  pub skipped : List SkippedBlock
  pub recovery : AreFilesRecovered texts says skipped
  pub of_files : List Finding
  pub are : AreFindingsOf texts.text texts.ends says skipped of_files
  pub found : List Finding
  pub sorted : AreSortedByPlace (of_files ++ unused_by document says.entries) found
  pub reported : List Finding
  pub are_reported : AreReportedAmong lint.conditions.items says skipped found reported
  pub kept_are : kept ≡ without_own lint.own reported

-- a finding of a file that begins at this offset in the text of all files, with its span in the text of the file
abbrev pub finding_in : ℕ → Finding → Finding
finding_in start f = record f { span = record { start = f.span.start - start; end = f.span.end - start } }

-- the number of findings before the first one that begins after this offset
abbrev pub count_to : ℕ → List Finding → ℕ
count_to end found = prefix_len (λ f. nat_le f.span.start end) found

-- the number of findings about a file that ends at this offset, if files with these ends follow it: those that begin up to its end, or all
-- if it is the last file
abbrev pub count_of_file : List ℕ → ℕ → List Finding → ℕ
count_of_file [] end found = length found
count_of_file (next ∷ ends) end found = count_to end found

-- `text` is the output for a file that begins at `start`, with these reported findings
pub record IsStoredPrinted (lint : Lint) (start : ℕ) (file : StoredFile) (found : List Finding) (before : Tally) (text : List ℕ)
    (after : Tally) : Type 0 where
  pub first : List ℕ
  pub printed : IsPrintedKept lint (string_bytes file.name) file.bytes.items file.decoded (map (finding_in start) found) before first after
  pub is : text ≡ in_file lint.style (string_bytes file.name) first

-- `text` is the output for files, the first of which begins at `start`. Each ends at one of the offsets, and the next begins after the
-- percent sign and the line feed at this offset. `found` has the reported findings in order of their places. Those that begin up to the end
-- of a file are about this file, and all others are about the last file.
pub data AreFilesPrinted (lint : Lint) : ℕ → List StoredFile → List ℕ → List Finding → Tally → List ℕ → Tally → Type 0 where
  none : {start : ℕ} {found : List Finding} {tally : Tally} → AreFilesPrinted lint start [] [] found tally [] tally
  next : {start end : ℕ} {file : StoredFile} {files : List StoredFile} {ends : List ℕ} {found : List Finding}
      {before between after : Tally} (first rest : List ℕ)
      → IsStoredPrinted lint start file (take (count_of_file ends end found) found) before first between
      → AreFilesPrinted lint (end + 2) files ends (drop (count_of_file ends end found) found) between rest after
      → AreFilesPrinted lint start (file ∷ files) (end ∷ ends) found before (first ++ rest) after

-- `text` is the output for the citations of the document, if there is one, that are the names of no entry. They are at their positions in
-- the document's file. With conditions, there are none.
abbrev pub AreMissingPrinted : Lint → Option Document → List EntryReading → Tally → List ℕ → Tally → Type 0
AreMissingPrinted lint None entries before text after = (text ≡ []) × (after ≡ before)
AreMissingPrinted lint (Some document) entries before text after =
    (first : List ℕ)
    × ArePrinted lint.style document.name.now document.text.now
    (selected_findings lint.selection [] (findings_of_no_entry lint.conditions.items (missing_by (Some document) entries)))
    before first after
    × (text ≡ in_file lint.style document.name.now first)

-- the task before the first file
pub record BeginsDatabase (lint : Lint) (document : Option Document) (task : Database) : Type 0 where
  pub lint_is : task.lint.now ≡ lint
  pub document_is : task.document ≡ document
  pub no_files : task.files.items ≡ []

-- the text of the task before the files
abbrev pub database_begins : Database → List ℕ
database_begins task = opening task.lint.now.style

-- the task stores a file, and has no output for it before the end
pub record StoresFile (old : Database) (name bytes text : List ℕ) (new : Database) : Type 0 where
  pub none : text ≡ []
  pub lint : new.lint.now ≡ old.lint.now
  pub document : new.document ≡ old.document
  pub file : StoredFile
  pub name_is : string_bytes file.name ≡ name
  pub bytes_are : file.bytes.items ≡ bytes
  pub decoded : AreDecoded bytes file.decoded
  pub files : new.files.items ≡ old.files.items ++ file ∷ []

-- the counts of no findings
abbrev pub no_findings : Tally
no_findings = record { errors = 0; warnings = 0; infos = 0 }

-- the output after all files, and the status: the findings of each file, those of the document, and the text after findings
pub record EndsDatabase (task : Database) (text : List ℕ) (status : ℕ) : Type 0 where
  pub says : FileReading
  pub kept : List Finding
  pub are : AreOfDatabase task.lint.now task.document (joined_texts task.files.items) says kept
  pub first : List ℕ
  pub between : Tally
  pub of_files : AreFilesPrinted task.lint.now 0 task.files.items (joined_texts task.files.items).ends kept no_findings first between
  pub second : List ℕ
  pub after : Tally
  pub of_document : AreMissingPrinted task.lint.now task.document says.entries between second after
  pub last : List ℕ
  pub closes : IsEndOfFindings task.lint.now.style after last
  pub is : text ≡ first ++ (second ++ last)
  pub status_is : status ≡ lint_status task.lint.now.fail_on after
