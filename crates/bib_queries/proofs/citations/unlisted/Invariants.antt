use Rattle.std.proofs.Common.{◌≡◌, ℕ, List, map, take}
use Rattle.bib_queries.specs.Citations.{unlisted_keys}
use Rattle.bib_queries.specs.Collecting.{IsSetOf}
use Rattle.bib_queries.specs.Texts.{text_list}
use Rattle.bib_queries.proofs.citations.unlisted.Given as goal

abbrev pub invariant-keys : goal.invariant-keys
invariant-keys l =
    (names : List (List ℕ)) → IsSetOf l.sets names
    → text_list l.kept ≡ unlisted_keys names (map (λ k. k.now) (take l.key-index l.keys))
