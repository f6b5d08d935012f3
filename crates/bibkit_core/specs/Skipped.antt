-- Meaning: words of public contracts.
-- The lines that report the skipped blocks of files.
use Rattle.std.specs.Prelude.{◌≡◌, ◌||◌, ◌==◌, ℕ, not, List, length, map, string_bytes}
use Rattle.std.specs.List.{flat_map}
use Rattle.bib_source.specs.Positions.{position_at}
use Rattle.bib_findings.specs.Errors.{block_finding}
use Rattle.bib_findings.specs.Findings.{AreSortedByPlace}
use Rattle.bib_findings.specs.declared.finding.Finding.{Finding}
use Rattle.bib_syntax.specs.Reading.{FileReading}
use Rattle.bib_syntax.specs.Recovery.{IsFullRecovery}
use Rattle.bib_syntax.specs.declared.raw.recovery.SkippedBlock.{SkippedBlock}
use Rattle.bibkit_core.specs.Printed.{finding_line}
use Rattle.bibkit_core.specs.declared.skipped.Skipped.{Skipped}

-- the lines of `lint` for skipped blocks with these findings in the file with this name and this text, in turn
abbrev pub block_lines : List ℕ → List ℕ → List Finding → List ℕ
block_lines name text found = flat_map (λ f. finding_line name (position_at text f.span.start) f) found

-- `found` are the findings of `lint` for the skipped blocks of a text, one for each, in order of their places
pub record AreBlockFindings (text : List ℕ) (found : List Finding) : Type 0 where
  pub says : FileReading
  pub skipped : List SkippedBlock
  pub recovery : IsFullRecovery text says skipped
  pub sorted : AreSortedByPlace (map (block_finding text says.entries) skipped) found

-- `lines` are the lines for the file with this name and this decoded text: one for each skipped block, and none else
pub record AreSkippedLines (name text lines : List ℕ) : Type 0 where
  pub found : List Finding
  pub are : AreBlockFindings text found
  pub lines_are : lines ≡ block_lines name text found

-- `new` has the lines for the next file, with this name and this decoded text; `has_any`: this file or one before it has a line
pub record AddsSkipped (old : Skipped) (name text : List ℕ) (new : Skipped) : Type 0 where
  pub lines : AreSkippedLines name text (string_bytes new.lines)
  pub any : new.has_any ≡ (old.has_any || not (length (string_bytes new.lines) == 0))
