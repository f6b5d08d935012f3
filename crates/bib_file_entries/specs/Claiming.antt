-- Meaning: words of public contracts.
-- Loaded entries with the names that they claim.
use Rattle.std.specs.Prelude.{◌≡◌, ℕ, List, [], map}
use Rattle.std.specs.List.{AllZip}
use Rattle.std.specs.declared.ops.Range.{Range}
use Rattle.bib_abbreviations.specs.Abbreviations.{Definitions}
use Rattle.bib_syntax.specs.Reading.{EntryReading}
use Rattle.bib_entry.specs.declared.entry.Entry.{Entry}
use Rattle.bib_file_entries.specs.Kept.{EntriesKept, IsKeptFrom}
use Rattle.bib_file_entries.specs.Loaded.{AreEntries, loaded_after}
use Rattle.bib_syntax.specs.declared.raw.ParseError.{ParseError}
use Rattle.bib_file_entries.specs.Bibliography.{empty_bibliography}
use Rattle.bib_collections.specs.Sorted.{ByText}

-- the entries are those of the raw entries, and each name points to the last entry that claims it
pub record IsLoadedSoFar (definitions : Definitions) (said : List EntryReading) (all : List Entry) (names : ByText ℕ) : Type 0 where
  pub read : AreEntries definitions [] said all
  pub bibliography : loaded_after empty_bibliography all ≡ record { entries = all; names = names }

-- the span of a raw entry
abbrev pub place_of : EntryReading → Range ℕ
place_of said = record { start = said.start; end = said.end }

-- the entries are those kept of the raw entries, with their spans, their indices among the raw entries, and the errors. Each
-- name points to the last entry that claims it
pub record IsKeptSoFar (definitions : Definitions) (said : List EntryReading) (all : List Entry) (names : ByText ℕ)
    (places : List (Range ℕ)) (origins : List ℕ) (errors : List ParseError) : Type 0 where
  pub kept : List EntryReading
  pub read : EntriesKept definitions [] said kept all errors
  pub stand : places ≡ map place_of kept
  pub origin : AllZip (IsKeptFrom said) origins kept
  pub bibliography : loaded_after empty_bibliography all ≡ record { entries = all; names = names }
