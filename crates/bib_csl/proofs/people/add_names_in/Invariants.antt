use Rattle.std.proofs.Common.{◌≡◌, ◌++◌, take}
use Rattle.std.specs.List.{flat_map}
use Rattle.bib_csl.specs.People.{unless_empty, name_said}
use Rattle.bib_csl.proofs.people.add_names_in.Given as goal

abbrev pub invariant-people : goal.invariant-people
invariant-people l =
    l.names
    ≡ l.initial.names
    ++ flat_map (λ part. unless_empty (name_said l.uses_prefix part)) (take l.part-index l.part-items)
