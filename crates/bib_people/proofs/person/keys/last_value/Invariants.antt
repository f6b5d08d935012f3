use Rattle.std.proofs.Common.{◌≡◌, drop}
use Rattle.bib_people.specs.Names.{last_value, value_after}
use Rattle.bib_people.proofs.person.keys.last_value.Given as goal

abbrev pub invariant-parts : goal.invariant-parts
invariant-parts l = value_after l.found l.key (drop l.name-index l.parts) ≡ last_value l.key l.parts
