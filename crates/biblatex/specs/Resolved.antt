-- Meaning: words of public contracts.
-- The bibliography of a raw bibliography, with the fields that its entries inherit, and its first error.
use Rattle.std.specs.Prelude.{◌≡◌, ℕ, ◌<◌, ◌⊎◌, true, false, List, [], map, slice_get, Some}
use Rattle.bib_abbreviations.specs.Abbreviations.{AreOneError}
use Rattle.bib_dates.specs.Readings.{IsDateKind}
use Rattle.bib_entry.specs.declared.entry.Entry.{Entry}
use Rattle.bib_tables.specs.declared.type_error.TypeErrorKind.{TypeErrorKind}
use Rattle.bib_collections.specs.Graph.{Graph, HasNoCycle, IsFirstOnCycle}
use Rattle.bib_inheritance.specs.InheritableDate.{looks_for_date}
use Rattle.bib_inheritance.specs.EntryTexts.{EntryTexts}
use Rattle.bib_collections.specs.Sorted.{ByText}
use Rattle.bib_inheritance.specs.Resolving.{AllKeepChunks, AreDatesRead, Inherits, IsDateError, at_index, graph_by, has_bad_date, texts_of_entries}
use Rattle.bib_syntax.specs.Reading.{EntryReading, FileReading}
use Rattle.bib_syntax.specs.declared.raw.ParseError.{ParseError}
use Rattle.bib_syntax.specs.declared.raw.ParseErrorKind.TheVariants.{ReferenceCycle, ResolutionError}
use Rattle.bib_file_entries.specs.Bibliography.{Bibliography, empty_bibliography}
use Rattle.bib_file_entries.specs.Loaded.{AreEntries, IsFirstErrorOfEntries, definition_in, loaded_after}

-- `own` is the list of a file's entries before inheriting, each with its own fields
abbrev pub AreOwn : FileReading → List Entry → Type 0
AreOwn says own = AreEntries (definition_in says.abbreviations) [] says.entries own

-- the names of entries: each points to the last index whose entry claims it
abbrev pub names_of : List Entry → ByText ℕ
names_of own = (loaded_after empty_bibliography own).names

-- for each entry, the indices of the entries that it refers to, by its own fields and the names of all entries
abbrev pub graph_of : List Entry → Graph
graph_of own = graph_by (names_of own) own

-- a raw bibliography is accepted: each field can be parsed, no key was claimed before, and no entry refers to itself by
-- `crossref` or `xdata`, directly or through others. No entry that lacks a required date refers in this way to an entry with an
-- unreadable date (`is_bad_date`)
pub record IsAccepted (says : FileReading) : Type 0 where
  pub own : List Entry
  pub entries : AreOwn says own
  pub no_cycle : HasNoCycle (graph_of own)
  pub dates : (values : List EntryTexts) → Inherits (texts_of_entries own) (graph_of own) values
      → AreDatesRead (texts_of_entries own) (graph_of own) values

-- `bibliography` is a bibliography of an accepted raw bibliography. Its entries are in order, each with its key, its type,
-- and its fields after inheriting. Each name points to the last index whose own entry claims it
pub record IsLoaded (says : FileReading) (bibliography : Bibliography) : Type 0 where
  pub accepted : IsAccepted says
  pub keys : map (λ e. e.key) bibliography.entries ≡ map (λ e. e.key) accepted.own
  pub inherits : Inherits (texts_of_entries accepted.own) (graph_of accepted.own) (texts_of_entries bibliography.entries)
  pub chunks : AllKeepChunks accepted.own bibliography.entries
  pub names : bibliography.names ≡ names_of accepted.own

-- the error for the entry at this index, which is on a cycle: its span is that of the entry, and it contains the key
pub record IsCycleError (says : FileReading) (index : ℕ) (e : ParseError) : Type 0 where
  pub said : EntryReading
  pub there : slice_get says.entries index ≡ Some said
  pub is : e ≡ record { span = record { start = said.start; end = said.end }; kind = ReferenceCycle said.key.text }

-- the first error of a raw bibliography. It is the first key claimed before or field that can't be parsed. If there is none,
-- it is the first entry that refers to itself by `crossref` or `xdata`, directly or through others. If there is none either, it is
-- the first entry that lacks a required date and refers in this way to an entry with an unreadable date
pub data IsFirstErrorOf (says : FileReading) (e : ParseError) : Type 0 where
  entry : IsFirstErrorOfEntries (definition_in says.abbreviations) [] says.entries e → IsFirstErrorOf says e
  cycle : {own : List Entry} {index : ℕ} → AreOwn says own → IsFirstOnCycle (graph_of own) index → IsCycleError says index e
      → IsFirstErrorOf says e
  date : {own : List Entry} {values : List EntryTexts} {index : ℕ} → AreOwn says own → HasNoCycle (graph_of own)
      → Inherits (texts_of_entries own) (graph_of own) values → looks_for_date (at_index (texts_of_entries own) index) ≡ true
      → ((earlier : ℕ) → earlier < index → has_bad_date (texts_of_entries own) (graph_of own) values earlier ≡ false)
      → IsDateError own (graph_of own) values index e → IsFirstErrorOf says e

-- an error of a date: a `ResolutionError` with the kind of a date error
pub record IsOfDate (e : ParseError) : Type 0 where
  pub kind : TypeErrorKind
  pub is : e.kind ≡ ResolutionError kind
  pub of_dates : IsDateKind kind

-- two errors of a file agree: they have the same kind and span. For a literal that can't be parsed, the span is left open.
-- For a date, the span and the choice among the kinds of date errors are left open
abbrev pub AreOneErrorOf : ParseError → ParseError → Type 0
AreOneErrorOf e f = AreOneError e f ⊎ (IsOfDate e × IsOfDate f)
