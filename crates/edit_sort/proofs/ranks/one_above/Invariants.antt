use Rattle.std.proofs.Common.{◌≡◌, drop, get_or, map, max}
use Rattle.edit_sort.specs.Ranks as ranks
use Rattle.edit_sort.proofs.ranks.one_above.Given as goal

-- the length so far and those at the indices still to visit give the result
abbrev pub invariant-indices : goal.invariant-indices
invariant-indices l =
    max l.found (ranks.one_above l.most (map (λ r. get_or l.lengths r 0) (drop l.r-index l.indices)))
    ≡ ranks.one_above l.most (map (λ r. get_or l.lengths r 0) l.indices)
