use Rattle.std.proofs.Common.{◌≡◌, ◌++◌, drop, map}
use Rattle.edit_merge.proofs.order.all_names.Given as goal

-- the names so far, and those that are left, are all names
abbrev pub invariant-names : goal.invariant-names
invariant-names l = map (λ n. n.now) l.names.items ++ drop l.name-index l.name-items ≡ l.name-items
