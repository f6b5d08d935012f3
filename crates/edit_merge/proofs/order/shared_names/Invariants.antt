use Rattle.std.proofs.Common.{◌≡◌, ◌++◌, drop, map}
use Rattle.std.specs.Prelude.{filter}
use Rattle.edit_merge.proofs.order.shared_names.Given as goal
use Rattle.edit_versions.specs.Versions.{has_unit_named}

-- the names so far, and those that are left and shared, are all shared names
abbrev pub invariant-names : goal.invariant-names
invariant-names l =
    map (λ n. n.now) l.names.items ++ filter (has_unit_named l.other) (drop l.name-index l.name-items)
    ≡ filter (has_unit_named l.other) l.name-items
