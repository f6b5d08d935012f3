use Rattle.std.proofs.Common.{◌≡◌, map, take}
use Rattle.serde_json.specs.View.{view}
use Rattle.bib_json.specs.Values.{language_or_part}
use Rattle.bib_json.proofs.lists.languages_value.Given as goal

abbrev pub invariant-parts : goal.invariant-parts
invariant-parts l = map view l.elements.items ≡ map language_or_part (take l.part-index l.parts)
