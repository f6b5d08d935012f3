-- Machinery: words of private contracts.
-- Marks on the citations of a document, which say whether a file has an entry for the citation.
use Rattle.std.specs.Prelude.{◌≡◌, ◌||◌, ℕ, Bool, true, false, List, [], ◌∷◌, ◌++◌, length, map, replicate, string_bytes}
use Rattle.bib_source.specs.declared.decoding.Decoded.{Decoded}
use Rattle.bib_queries.specs.Known.{IsKnownIn, IsUncited}
use Rattle.bib_queries.specs.declared.citations.Citation.{Citation}
use Rattle.bib_findings.specs.declared.finding.Finding.{Finding}
use Rattle.bib_syntax.specs.Reading.{FileReading, Part}
use Rattle.bib_syntax.specs.Recovery.{IsFullRecovery}
use Rattle.bib_syntax.specs.declared.raw.recovery.SkippedBlock.{SkippedBlock}
use Rattle.bibkit_core.specs.Asked.{selected_findings}
use Rattle.bibkit_core.specs.Conditions.{AreReportedFindings, findings_of_no_entry}
use Rattle.bibkit_core.specs.Compared.{AreCitedBy, cited_keys, missing_finding, unused_finding, unused_findings}
use Rattle.bibkit_core.specs.Linted.{ArePrinted, off_in}
use Rattle.bibkit_core.specs.Tasks.{AreDecoded, IsEndOfFindings, PrintsFindings, in_file, lint_status, opening}
use Rattle.bibkit_core.specs.declared.cited.Document.{Document}
use Rattle.bibkit_core.specs.declared.comparing.Comparing.{Comparing}
use Rattle.bibkit_core.specs.declared.tally.Tally.{Tally}

-- for each index of the shorter list, whether one of the two marks at this index is true
abbrev pub either_mark : List Bool → List Bool → List Bool
either_mark [] others = []
either_mark (mark ∷ marks) [] = []
either_mark (mark ∷ marks) (other ∷ others) = (mark || other) ∷ either_mark marks others

-- the findings of the citations whose mark (at the same index) is false
abbrev pub unmarked_findings : List Citation → List Bool → List Finding
unmarked_findings [] marks = []
unmarked_findings (c ∷ rest) [] = []
unmarked_findings (c ∷ rest) (true ∷ marks) = unmarked_findings rest marks
unmarked_findings (c ∷ rest) (false ∷ marks) = missing_finding c ∷ unmarked_findings rest marks

-- `document` has this name, text and setting, and the citations of the text, and no citation is marked
pub record BeginsDocument (name text : List ℕ) (has_unused : Bool) (document : Document) : Type 0 where
  pub name_is : document.name.now ≡ name
  pub text_is : document.text.now ≡ text
  pub unused_is : document.has_unused ≡ has_unused
  pub cited : AreCitedBy name text document.citations
  pub none_known : document.known.items ≡ replicate (length document.citations.keys.items) false

-- two documents are the same except for their marks
pub record IsSameDocument (old new : Document) : Type 0 where
  pub name_is : new.name.now ≡ old.name.now
  pub text_is : new.text.now ≡ old.text.now
  pub unused_is : new.has_unused ≡ old.has_unused
  pub citations : new.citations ≡ old.citations

-- `known` are the marks after a file with this text: a citation is marked if it was before, or if the file has an entry for it
pub record AreKnownWith (text : List ℕ) (document : Document) (known : List Bool) : Type 0 where
  pub marks : List Bool
  pub known_in : IsKnownIn text (cited_keys document.citations) marks
  pub are : known ≡ either_mark document.known.items marks

-- `found` are the findings of the entries of a text that have no name among these keys
pub record AreUncited (text : List ℕ) (keys : List (List ℕ)) (found : List Finding) : Type 0 where
  pub parts : List Part
  pub uncited : IsUncited text keys parts
  pub are : found ≡ map unused_finding parts

-- the findings of the entries of a text that the document doesn't cite, if these are requested; an entry with a syntax error counts with
-- its complete parts
abbrev pub AreUnused : Document → List ℕ → List Finding → Type 0
AreUnused document text found =
    (says : FileReading) (skipped : List SkippedBlock) → IsFullRecovery text says skipped
    → found ≡ unused_findings document.has_unused document.citations says.entries

-- the text of the comparing task before the files
abbrev pub comparing_begins : Comparing → List ℕ
comparing_begins task = opening task.linting.lint.now.style

-- the output of the comparing task for a file, and the task afterwards
pub record PrintsComparing (old : Comparing) (name bytes text : List ℕ) (new : Comparing) : Type 0 where
  pub first : List ℕ
  pub second : List ℕ
  pub between : Tally
  pub decoded : Decoded
  pub unused : List Finding
  pub kept : List Finding
  pub lint : new.linting.lint.now ≡ old.linting.lint.now
  pub document : IsSameDocument old.document new.document
  pub found : PrintsFindings old.linting.lint.now name bytes old.linting.tally first between
  pub of_bytes : AreDecoded bytes decoded
  pub known : AreKnownWith (string_bytes decoded.text) old.document new.document.known.items
  pub are_unused : AreUnused old.document (string_bytes decoded.text) unused
  pub reported : AreReportedFindings old.linting.lint.now.conditions.items (string_bytes decoded.text) unused kept
  pub more : ArePrinted old.linting.lint.now.style name (string_bytes decoded.text)
      (selected_findings old.linting.lint.now.selection (off_in old.linting.lint.now (string_bytes decoded.text)) kept) between second
      new.linting.tally
  pub is : text ≡ in_file old.linting.lint.now.style name (first ++ second)

-- the text of the comparing task after the files, and its status
pub record EndsComparing (task : Comparing) (text : List ℕ) (status : ℕ) : Type 0 where
  pub first : List ℕ
  pub after : Tally
  pub more : ArePrinted task.linting.lint.now.style task.document.name.now task.document.text.now
      (selected_findings task.linting.lint.now.selection []
      (findings_of_no_entry task.linting.lint.now.conditions.items
      (unmarked_findings task.document.citations.keys.items task.document.known.items))) task.linting.tally first
      after
  pub last : List ℕ
  pub closes : IsEndOfFindings task.linting.lint.now.style after last
  pub is : text ≡ in_file task.linting.lint.now.style task.document.name.now first ++ last
  pub status_is : status ≡ lint_status task.linting.lint.now.fail_on after
