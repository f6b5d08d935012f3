use Rattle.std.proofs.Common.{◌≡◌, ◌++◌, None, drop, map}
use Rattle.edit_merge.specs.Picked.{woven}
use Rattle.edit_merge.proofs.order.woven.Given as goal

-- the names so far, and those that are left with the names of the other version between them, are all names
abbrev pub invariant-names : goal.invariant-names
invariant-names l =
    map (λ n. n.now) l.names.items ++ woven l.main l.other l.last (drop l.name-index l.name-items) ≡ woven l.main l.other None l.name-items
