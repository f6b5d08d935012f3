use Rattle.std.proofs.Common.{◌≡◌, map}
use Rattle.std.specs.Vec.Iter.{into_iter_items}
use Rattle.bib_abbreviations.specs.Abbreviations.{pairs_in, sorted_in}
use Rattle.bib_syntax.specs.Views.{entry_reading_of}
use Rattle.bib_file_entries.proofs.LoadedFacts.{LoadedSoFar}
use Rattle.bib_file_entries.proofs.reading.load_entries.Given as goal

-- the entries so far are loaded, and have claimed their names
abbrev pub invariant-entries : goal.invariant-entries
invariant-entries l = record {
  can_next : (goal.iterator-entries).can_next l.said-iterator;
  is_finite : (goal.iterator-entries).is_finite l.said-iterator;
  reader : l.reader ≡ pairs_in l.fn.definitions;
  loaded : LoadedSoFar (sorted_in l.fn.definitions) (map entry_reading_of l.fn.raw.items)
      (map entry_reading_of (into_iter_items l.said-iterator)) l.entries.items l.names;
}
