use Rattle.std.proofs.Common.{◌≡◌, map, take}
use Rattle.serde_json.specs.View.{view}
use Rattle.bib_json.specs.Values.{range_json}
use Rattle.bib_json.proofs.lists.ranges_value.Given as goal

abbrev pub invariant-page_ranges : goal.invariant-page_ranges
invariant-page_ranges l = map view l.elements.items ≡ map range_json (take l.range-index l.ranges)
