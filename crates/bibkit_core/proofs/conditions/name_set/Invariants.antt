use Rattle.std.proofs.Common.{◌≡◌, ℕ, List, map, take}
use Rattle.bib_queries.specs.Needed.{is_listed}
use Rattle.bib_queries.specs.Sets.{is_in_set}
use Rattle.bibkit_core.proofs.conditions.name_set.Given as goal

abbrev pub invariant-names : goal.invariant-names
invariant-names l = (name : List ℕ) → is_in_set l.set name ≡ is_listed (map (λ n. n.now) (take l.name-index l.names)) name
