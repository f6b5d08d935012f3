use Rattle.std.proofs.Common.{◌≡◌, map}
use Rattle.std.specs.List.{list_all}
use Rattle.bib_from_csl.specs.WrittenPeople.{begins_with_small}
use Rattle.bib_from_csl.proofs.people.has_small_words.Given as goal

abbrev pub invariant-words : goal.invariant-words
invariant-words l = l.are_small ≡ list_all begins_with_small (map (λ p. p.now) l.yielded)
