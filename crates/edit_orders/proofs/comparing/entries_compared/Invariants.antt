use Rattle.std.proofs.Common.{◌≡◌, drop}
use Rattle.edit_orders.specs.Values.{values_cmp}
use Rattle.edit_orders.proofs.comparing.entries_compared.Given as goal

-- the properties still to visit decide the order of the entries
abbrev pub invariant-order : goal.invariant-order
invariant-order l = values_cmp l.order l.first l.second ≡ values_cmp (drop l.index l.order) (drop l.index l.first) (drop l.index l.second)
