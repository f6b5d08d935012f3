use Rattle.std.proofs.Common.{◌≡◌, ℕ, List, map, take}
use Rattle.bib_queries.specs.Needed.{is_listed}
use Rattle.bib_queries.specs.Sets.{is_in_set}
use Rattle.edit_entries.proofs.firsts.key_set.Given as goal

abbrev pub invariant-keys : goal.invariant-keys
invariant-keys l = (key : List ℕ) → is_in_set l.set key ≡ is_listed (map (λ k. k.now) (take l.key-index l.keys)) key
