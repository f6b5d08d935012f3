use Rattle.std.proofs.Common.{◌≡◌, get_or, map, take}
use Rattle.edit_sort.proofs.ranks.lengths_at.Given as goal

-- `found` has the lengths at the indices so far
abbrev pub invariant-indices : goal.invariant-indices
invariant-indices l = l.found.items ≡ map (λ r. get_or l.lengths r 0) (take l.r-index l.indices)
