use Rattle.std.proofs.Common.{◌≡◌, ◌++◌, drop}
use Rattle.bib_from_csl.specs.WrittenPeople.{names_from, names_chunks}
use Rattle.bib_from_csl.proofs.people.chunks_of.Given as goal

abbrev pub invariant-names : goal.invariant-names
invariant-names l = l.all ++ names_from l.uses_prefix l.first (drop l.name-index l.names) ≡ names_chunks l.uses_prefix l.names
