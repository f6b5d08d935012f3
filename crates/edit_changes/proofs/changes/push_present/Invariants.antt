use Rattle.std.proofs.Common.{◌≡◌, ◌++◌, drop}
use Rattle.std.specs.List.{enumerate_from, flat_map}
use Rattle.edit_changes.specs.Changes.{present_unit}
use Rattle.edit_changes.proofs.changes.push_present.Given as goal

-- the changes so far, and those at the remaining names, are the old changes and those at all names
abbrev pub invariant-names : goal.invariant-names
invariant-names l =
    l.changes.items ++ flat_map (present_unit l.comparison.old.now l.comparison.new.now) (enumerate_from l.index (drop l.index l.names))
    ≡ l.initial.changes.items ++ flat_map (present_unit l.comparison.old.now l.comparison.new.now) (enumerate_from 0 l.names)
