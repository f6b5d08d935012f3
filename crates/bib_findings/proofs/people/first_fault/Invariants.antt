use Rattle.std.proofs.Common.{◌≡◌, drop, map}
use Rattle.bib_findings.specs.People.{first_fault}
use Rattle.bib_findings.proofs.people.first_fault.Given as goal

-- the first fault of the remaining people is that of all people
abbrev pub invariant-people : goal.invariant-people
invariant-people l =
    first_fault (map (λ name. name.now) (drop l.name-index l.people)) ≡ first_fault (map (λ name. name.now) l.people)
