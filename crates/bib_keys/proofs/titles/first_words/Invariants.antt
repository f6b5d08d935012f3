use Rattle.std.proofs.Common.{◌≡◌, map}
use Rattle.std.specs.List.{filter}
use Rattle.bib_keys.specs.Words.{is_significant}
use Rattle.bib_keys.proofs.titles.first_words.Given as goal

abbrev pub invariant-words : goal.invariant-words
invariant-words l = l.words.items ≡ filter is_significant (map (λ word. word.now) l.yielded)
