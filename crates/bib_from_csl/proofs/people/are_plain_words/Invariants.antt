use Rattle.std.proofs.Common.{◌≡◌, map}
use Rattle.std.specs.List.{list_all}
use Rattle.bib_from_csl.specs.WrittenPeople.{is_plain_word}
use Rattle.bib_from_csl.proofs.people.are_plain_words.Given as goal

abbrev pub invariant-words : goal.invariant-words
invariant-words l = l.are_plain ≡ list_all is_plain_word (map (λ p. p.now) l.yielded)
