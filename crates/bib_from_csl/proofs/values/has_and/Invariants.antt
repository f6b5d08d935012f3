use Rattle.std.proofs.Common.{◌≡◌, map}
use Rattle.std.specs.List.{list_any}
use Rattle.bib_from_csl.specs.Values.{divides_lists}
use Rattle.bib_from_csl.proofs.values.has_and.Given as goal

abbrev pub invariant-words : goal.invariant-words
invariant-words l = l.found ≡ list_any divides_lists (map (λ p. p.now) l.yielded)
