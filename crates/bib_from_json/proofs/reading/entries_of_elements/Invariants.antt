use Rattle.std.proofs.Common.{◌≡◌, drop, map}
use Rattle.json.specs.Value.{value_view}
use Rattle.bib_from_json.specs.GivenEntries.{entries_of_elements}
use Rattle.bib_from_json.proofs.ReadingFacts.{after}
use Rattle.bib_from_json.proofs.reading.entries_of_elements.Given as goal

abbrev pub invariant-entries : goal.invariant-entries
invariant-entries l =
    (after l.entries (entries_of_elements l.index (map value_view (drop l.value-index l.values)))
    ≡ entries_of_elements 0 (map value_view l.values))
    × (l.index ≡ l.value-index)
