use Rattle.std.proofs.Common.{◌≡◌, map, take}
use Rattle.edit_orders.proofs.places.slices.Given as goal

-- the slices so far are the first lists
abbrev pub invariant-all : goal.invariant-all
invariant-all l = map (λ s. s.now) l.slices.items ≡ take l.values-index l.all
