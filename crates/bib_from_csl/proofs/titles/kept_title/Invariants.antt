use Rattle.std.proofs.Common.{◌≡◌, length, map}
use Rattle.std.specs.Prelude.{◌==◌}
use Rattle.bib_from_csl.specs.OwnTitles.{title_of_words}
use Rattle.bib_from_csl.proofs.titles.kept_title.Given as goal

abbrev pub invariant-words : goal.invariant-words
invariant-words l =
    (l.kept ≡ title_of_words (map (λ p. p.now) l.yielded)) × (l.is_first ≡ (length l.yielded == 0))
