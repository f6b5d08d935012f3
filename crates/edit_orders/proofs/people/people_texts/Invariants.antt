use Rattle.std.proofs.Common.{◌≡◌, take}
use Rattle.std.specs.List.{flat_map}
use Rattle.edit_orders.specs.People.{person_texts}
use Rattle.edit_orders.proofs.people.people_texts.Given as goal

abbrev pub invariant-people : goal.invariant-people
invariant-people l = l.texts.items ≡ flat_map person_texts (take l.person-index l.person-items)
