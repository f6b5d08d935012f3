use Rattle.std.proofs.Common.{◌≡◌, ◌++◌, drop, map}
use Rattle.std.specs.List.{before_first}
use Rattle.edit_merge.proofs.order.push_run.Given as goal
use Rattle.edit_versions.specs.Versions.{has_unit_named}

-- the names so far, and the run that is left, are the old names and the whole run
abbrev pub invariant-names : goal.invariant-names
invariant-names l =
    map (λ n. n.now) l.names.items ++ before_first (has_unit_named l.main) (drop l.name-index l.left)
    ≡ map (λ n. n.now) l.initial.names.items ++ before_first (has_unit_named l.main) l.left
