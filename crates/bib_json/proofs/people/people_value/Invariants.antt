use Rattle.std.proofs.Common.{◌≡◌, map, take}
use Rattle.serde_json.specs.View.{view}
use Rattle.bib_json.specs.Values.{person_json}
use Rattle.bib_json.proofs.people.people_value.Given as goal

abbrev pub invariant-people : goal.invariant-people
invariant-people l = map view l.elements.items ≡ map person_json (take l.person-index l.people)
