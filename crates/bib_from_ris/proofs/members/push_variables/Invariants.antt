use Rattle.std.proofs.Common.{◌≡◌, ◌++◌, map}
use Rattle.std.specs.List.{flat_map}
use Rattle.bib_from_ris.specs.Members.{members_of}
use Rattle.bib_from_ris.proofs.members.push_variables.Given as goal

abbrev pub invariant-names : goal.invariant-names
invariant-names l = l.out ≡ l.initial.out ++ flat_map (members_of l.lines) (map (λ p. p.now) l.yielded)
