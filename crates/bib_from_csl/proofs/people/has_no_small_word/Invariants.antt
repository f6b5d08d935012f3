use Rattle.std.proofs.Common.{◌≡◌, map}
use Rattle.std.specs.List.{list_any}
use Rattle.bib_from_csl.specs.WrittenPeople.{begins_with_small}
use Rattle.bib_from_csl.proofs.people.has_no_small_word.Given as goal

abbrev pub invariant-words : goal.invariant-words
invariant-words l = l.found ≡ list_any begins_with_small (map (λ p. p.now) l.yielded)
