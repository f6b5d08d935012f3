use Rattle.std.proofs.Common.{◌≡◌, map, take}
use Rattle.json.specs.Value.{value_view}
use Rattle.bib_from_csl.specs.GivenNames.{given_name}
use Rattle.bib_from_csl.proofs.names.given_names.Given as goal

abbrev pub invariant-people : goal.invariant-people
invariant-people l = l.names ≡ map given_name (map value_view (take l.person-index l.elements))
