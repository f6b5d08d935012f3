use Rattle.std.proofs.Common.{◌≡◌, ℕ, List, false, map, take}
use Rattle.bib_queries.specs.Known.{has_name_among}
use Rattle.bib_queries.specs.Needed.{is_listed}
use Rattle.bib_queries.specs.Sets.{is_in_set}
use Rattle.bib_queries.proofs.known.has_one.Given as goal

abbrev pub invariant-names : goal.invariant-names
invariant-names l =
    (keys : List (List ℕ)) → ((name : List ℕ) → is_in_set l.set name ≡ is_listed keys name)
    → has_name_among keys (map (λ n. n.now) (take l.name-index l.names)) ≡ false
