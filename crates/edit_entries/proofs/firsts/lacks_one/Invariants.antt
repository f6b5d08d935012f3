use Rattle.std.proofs.Common.{◌≡◌, false, map, not, take}
use Rattle.std.specs.List.{list_any}
use Rattle.bib_queries.specs.Sets.{is_in_set}
use Rattle.edit_entries.proofs.firsts.lacks_one.Given as goal

abbrev pub invariant-keys : goal.invariant-keys
invariant-keys l = list_any (λ key. not (is_in_set l.set key)) (map (λ k. k.now) (take l.key-index l.keys)) ≡ false
