use Rattle.std.proofs.Common.{◌≡◌, drop, map}
use Rattle.bib_abbreviations.specs.Abbreviations.{pairs_in, sorted_in}
use Rattle.bib_syntax.specs.Views.{entry_reading_of}
use Rattle.bib_file_entries.proofs.KeepingFacts.{EntriesKeptSoFar}
use Rattle.bib_file_entries.proofs.keeping.keep_entries.Given as goal

-- the entries so far are kept or left out, and the kept ones have claimed their names
abbrev pub invariant-entries : goal.invariant-entries
invariant-entries l = record {
  reader : l.reader ≡ pairs_in l.fn.definitions;
  kept : EntriesKeptSoFar (sorted_in l.fn.definitions) (map entry_reading_of l.raw)
      (map entry_reading_of (drop l.said-index l.raw)) l.entries.items l.names l.spans.items l.origins.items l.next
      l.errors.items;
}
