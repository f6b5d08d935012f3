use Rattle.std.proofs.Common.{◌≡◌, map, take}
use Rattle.serde_json.specs.View.{view}
use Rattle.bib_json.specs.Values.{part_json}
use Rattle.bib_json.proofs.lists.parts_value.Given as goal

abbrev pub invariant-parts : goal.invariant-parts
invariant-parts l = map view l.elements.items ≡ map part_json (take l.part-index l.parts)
