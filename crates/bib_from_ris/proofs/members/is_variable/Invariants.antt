use Rattle.std.proofs.Common.{◌≡◌, map}
use Rattle.std.specs.Prelude.{bytes_eq}
use Rattle.std.specs.List.{list_any}
use Rattle.bib_from_ris.proofs.members.is_variable.Given as goal

abbrev pub invariant-names : goal.invariant-names
invariant-names l = l.found ≡ list_any (bytes_eq l.name) (map (λ p. p.now) l.yielded)
