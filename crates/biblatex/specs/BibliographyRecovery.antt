-- Meaning: words of public contracts.
-- The recovery of a text with errors: the bibliography and the errors. Three steps follow each other: parsing the raw
-- bibliography, loading its entries, and inheriting. Each step is that of `parse`, except that it removes or replaces the
-- parts with errors.
use Rattle.std.specs.Prelude.{◌≡◌, ℕ, List, [], ◌++◌, map}
use Rattle.std.specs.List.{AllZip}
use Rattle.bib_entry.specs.declared.entry.Entry.{Entry}
use Rattle.bib_file_entries.specs.Bibliography.{Bibliography}
use Rattle.bib_file_entries.specs.Claiming.{place_of}
use Rattle.bib_file_entries.specs.Kept.{EntriesKept, IsKeptFrom}
use Rattle.bib_file_entries.specs.Loaded.{definition_in}
use Rattle.bib_inheritance.specs.Recovered.{AreRecovered}
use Rattle.bib_inheritance.specs.Resolving.{texts_of_entries}
use Rattle.bib_syntax.specs.Reading.{EntryReading, FileReading}
use Rattle.bib_syntax.specs.Recovery.{IsFullRecovery}
use Rattle.bib_syntax.specs.declared.raw.ParseError.{ParseError}
use Rattle.bib_syntax.specs.declared.raw.recovery.SkippedBlock.{SkippedBlock}
use Rattle.biblatex.specs.Resolved.{AreOneErrorOf, names_of}

-- `bibliography` is the recovery of `text`. Its entries come from the raw entries with the indices `origins`. `skipped`
-- contains the blocks with syntax errors, each with its error; their complete parts are kept. Each of the following adds an
-- error to `errors`. An entry is left out if an earlier kept entry claimed its key. An undefined abbreviation is replaced by
-- its name as text, and a field that still can't be parsed is left out. An entry that refers to itself by `crossref` or
-- `xdata`, directly or through others, loses these two fields. An entry that lacks a required date doesn't inherit an
-- unreadable date (`is_bad_date`) of an entry that it refers to
pub record IsRecoveredBibliography (text : List ℕ) (bibliography : Bibliography) (origins : List ℕ)
    (skipped : List SkippedBlock) (errors : List ParseError) : Type 0 where
  pub says : FileReading
  pub recovery : IsFullRecovery text says skipped
  pub kept : List EntryReading
  pub own : List Entry
  pub of_entries : List ParseError
  pub entries : EntriesKept (definition_in says.abbreviations) [] says.entries kept own of_entries
  pub origin : AllZip (IsKeptFrom says.entries) origins kept
  pub of_references : List ParseError
  pub resolved : AreRecovered (map place_of kept) (names_of own) own bibliography.entries of_references
  pub names : bibliography.names ≡ names_of own
  pub all : errors ≡ of_entries ++ of_references

-- two recoveries agree: they have the same skipped blocks, keys, types, names and styled texts of fields, and errors that
-- agree. The borders and the spans of chunks may differ
pub record IsSameRecovery (one other : Bibliography) (skipped passed : List SkippedBlock) (errors faults : List ParseError) : Type 0 where
  pub skips : skipped ≡ passed
  pub tells : AllZip AreOneErrorOf errors faults
  pub keys : map (λ e. e.key) one.entries ≡ map (λ e. e.key) other.entries
  pub fields : texts_of_entries one.entries ≡ texts_of_entries other.entries
  pub names : one.names ≡ other.names
