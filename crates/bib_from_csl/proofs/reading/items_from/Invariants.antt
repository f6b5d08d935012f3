use Rattle.std.proofs.Common.{◌≡◌, drop, map}
use Rattle.json.specs.Value.{value_view}
use Rattle.bib_from_csl.specs.GivenItems.{items_read_from}
use Rattle.bib_from_csl.proofs.ReadingFacts.{after_items}
use Rattle.bib_from_csl.proofs.reading.items_from.Given as goal

abbrev pub invariant-elements : goal.invariant-elements
invariant-elements l =
    (after_items l.items (items_read_from l.index (map value_view (drop l.value-index l.values)))
    ≡ items_read_from 0 (map value_view l.values))
    × (l.index ≡ l.value-index)
