use Rattle.std.proofs.Common.{◌≡◌, map, Some}
use Rattle.edit_orders.specs.Orders.{part_named, order_parts}
use Rattle.edit_orders.proofs.order.Order.parse.Given as goal

-- the words so far name the properties of the order
abbrev pub invariant-words : goal.invariant-words
invariant-words l = map Some (order_parts l.order) ≡ map part_named (map (λ word. word.now) l.yielded)
