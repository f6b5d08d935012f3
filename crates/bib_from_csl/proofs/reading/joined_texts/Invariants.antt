use Rattle.std.proofs.Common.{◌≡◌, drop, map, true}
use Rattle.json.specs.Value.{value_view}
use Rattle.bib_from_csl.specs.GivenItems.{joined_from}
use Rattle.bib_from_csl.proofs.ReadingFacts.{after_parts}
use Rattle.bib_from_csl.proofs.reading.joined_texts.Given as goal

abbrev pub invariant-elements : goal.invariant-elements
invariant-elements l =
    after_parts l.joined (joined_from l.is_first (map value_view (drop l.value-index l.values)))
    ≡ joined_from true (map value_view l.values)
