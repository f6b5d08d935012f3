use Rattle.std.proofs.Common.{List, Option, rules, is_lt, Bor}
use Rattle.std.proofs.lemmas.List.Sorted.{IsPartitionPoint-from_clause}
use Rattle.edit_orders.specs.Values.{values_cmp}
use Rattle.edit_orders.specs.declared.values.SortValue.{SortValue}
use Rattle.edit_orders.proofs.PlaceFacts.{less_first, place_from}
use Rattle.edit_orders.proofs.places.place_in.Goals as goal

-- any reference to sort values, used as the default of `get_or`
abbrev any : List (Option SortValue) → Bor (List (Option SortValue))
any values = record { ref_ptr = (0, 0); now = values }

pub returns : goal.returns
returns c =
    let values = c.args.values.now in
    let sorted = c.args.sorted.now in
    let order = c.args.order.now in
    place_from order (λ s. s.now) any sorted values c.partition_point.result c.partition_point.ensures.bound
    (IsPartitionPoint-from_clause (λ s. is_lt (values_cmp order s.now values)) sorted c.partition_point.result
    c.partition_point.ensures.partitioned (less_first order (λ s. s.now) any sorted values c.requires)
    (λ a r f called. search rules))
