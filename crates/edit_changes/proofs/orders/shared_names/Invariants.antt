use Rattle.std.proofs.Common.{◌≡◌, ◌++◌, drop, filter, map}
use Rattle.edit_versions.specs.Versions.{has_unit_named}
use Rattle.edit_changes.specs.Changes.{shared_names}
use Rattle.edit_changes.proofs.orders.shared_names.Given as goal

-- the names so far, and those that are left and shared, are all shared names
abbrev pub invariant-names : goal.invariant-names
invariant-names l =
    map (λ n. n.now) l.names.items ++ filter (has_unit_named l.other) (drop l.name-index l.name-items) ≡ shared_names l.version l.other
