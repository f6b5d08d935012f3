use Rattle.std.proofs.Common.{◌≡◌, map, take}
use Rattle.bib_keys.specs.Names.{shown_family_name}
use Rattle.bib_keys.proofs.names.family_names.Given as goal

abbrev pub invariant-people : goal.invariant-people
invariant-people l = l.names.items ≡ map shown_family_name (take l.person-index l.people)
