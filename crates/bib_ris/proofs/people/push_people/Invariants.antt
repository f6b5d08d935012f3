use Rattle.std.proofs.Common.{◌≡◌, ◌++◌, take}
use Rattle.std.specs.String.{string_bytes}
use Rattle.bib_ris.specs.People.{person_lines}
use Rattle.bib_ris.proofs.people.push_people.Given as goal

abbrev pub invariant-people : goal.invariant-people
invariant-people l = string_bytes l.out ≡ string_bytes l.initial.out ++ person_lines l.tag (take l.person-index l.people)
