-- Machinery: words of private contracts.
-- The counts of the task that counts files.
use Rattle.std.specs.Prelude.{◌≡◌, ℕ, ◌-◌, ◌^◌, min, List, [], ◌++◌, length, map}
use Rattle.std.specs.BTreeMap.{get_by_text}
use Rattle.std.specs.List.{flat_map}
use Rattle.bib_findings.specs.Codes.{code_name}
use Rattle.bib_findings.specs.Findings.{AreFindings}
use Rattle.bib_findings.specs.declared.finding.Finding.{Finding}
use Rattle.bib_syntax.specs.Reading.{EntryReading, FileReading}
use Rattle.bib_syntax.specs.Recovery.{IsRecovery}
use Rattle.bib_syntax.specs.declared.raw.recovery.SkippedBlock.{SkippedBlock}
use Rattle.bibkit_core.specs.Stats.{EndsCounted, FilesSoFar, IsCountedWith, lowercase_names, type_name, years_in}
use Rattle.bibkit_core.specs.Tables.{times_met}
use Rattle.bibkit_core.specs.declared.counting.Counting.{Counting}
use Rattle.bibkit_core.specs.declared.tables.Counts.{Counts}

-- `counts` has for each name that occurs in this list the number of its occurrences, at most 2 ^ 64 - 1, and nothing for any other name
pub record AreCounted (names : List (List ℕ)) (counts : Counts) : Type 0 where
  pub held : (name : List ℕ) → get_by_text counts.counts name ≡ times_met names name

-- the count of each name is increased by the number of its occurrences in this list, to at most 2 ^ 64 - 1
pub record AddsNames (names : List (List ℕ)) (old new : Counts) : Type 0 where
  pub adds : (before : List (List ℕ)) → AreCounted before old → AreCounted (before ++ names) new

-- the counts are those of these entries and findings; a count stays at its maximum
pub record AreCountsOf (all : FilesSoFar) (task : Counting) : Type 0 where
  pub entries : task.entries ≡ min (length all.entries) (2 ^ 64 - 1)
  pub types : AreCounted (map type_name all.entries) task.types
  pub fields : AreCounted (flat_map (λ e. lowercase_names e.fields) all.entries) task.fields
  pub years : AreCounted (flat_map (λ e. years_in e.fields) all.entries) task.years
  pub findings : AreCounted (map (λ f. code_name f.code) all.found) task.findings

-- the counts of the task are increased by these entries
pub record AddsEntries (entries : List EntryReading) (old new : Counting) : Type 0 where
  pub adds : (all : FilesSoFar) → AreCountsOf all old → AreCountsOf (record { entries = all.entries ++ entries; found = all.found }) new

-- the counts of the task are increased by these findings
pub record AddsFindings (found : List Finding) (old new : Counting) : Type 0 where
  pub adds : (all : FilesSoFar) → AreCountsOf all old → AreCountsOf (record { entries = all.entries; found = all.found ++ found }) new

-- the counts of the task are increased by the entries of a text that can be parsed
pub record AddsTextEntries (text : List ℕ) (old new : Counting) : Type 0 where
  pub says : FileReading
  pub skipped : List SkippedBlock
  pub recovery : IsRecovery text says skipped
  pub added : AddsEntries says.entries old new

-- the counts of the task are increased by the findings of a text
pub record AddsTextFindings (text : List ℕ) (old new : Counting) : Type 0 where
  pub found : List Finding
  pub are : AreFindings text found
  pub added : AddsFindings found old new

-- the task counts a file, and the output for the file is empty
pub record PrintsCounting (old : Counting) (name bytes text : List ℕ) (new : Counting) : Type 0 where
  pub text_is : text ≡ []
  pub counted : (before : FilesSoFar) → AreCountsOf before old
      → (after : FilesSoFar) × IsCountedWith before bytes after × AreCountsOf after new

-- for all entries and findings that the task has counted, this is the output after all files, with this status
pub record EndsCounting (task : Counting) (text : List ℕ) (status : ℕ) : Type 0 where
  pub ends : (all : FilesSoFar) → AreCountsOf all task → EndsCounted all text status
