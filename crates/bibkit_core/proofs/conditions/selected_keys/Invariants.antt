use Rattle.std.proofs.Common.{◌≡◌, ◌++◌, map}
use Rattle.std.specs.Slice.Iter.{iter_rest}
use Rattle.bibkit_core.specs.Conditions.{selected_keys}
use Rattle.bibkit_core.proofs.conditions.selected_keys.Given as goal

-- the keys so far and those of the entries that are still to come are the keys of all entries that meet the conditions
abbrev pub invariant-entries : goal.invariant-entries
invariant-entries l =
    (goal.iterator-entries).can_next l.entry-iterator × (goal.iterator-entries).is_finite l.entry-iterator
    × (map (λ key. key.now) l.keys.items ++ selected_keys l.conditions (iter_rest l.entry-iterator)
    ≡ selected_keys l.conditions l.bibliography.entries)
