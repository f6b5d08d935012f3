use Rattle.std.specs.Prelude.{◌↔◌}
use Rattle.std.specs.List.{AllByRecursion}
use Rattle.std.specs.Slice.Iter.{iter_rest}
use Rattle.biblatex.specs.Settled.{IsKey, IsSettledEntry, IsSettledField}
use Rattle.biblatex.proofs.settled_entry.is_settled_entry.Given as goal

-- the entry is settled exactly if its key and the remaining fields are
abbrev pub invariant-fields : goal.invariant-fields
invariant-fields l =
    (goal.iterator-fields).can_next l.name-iterator × (goal.iterator-fields).is_finite l.name-iterator
    × (IsSettledEntry l.entry ↔ (IsKey l.entry.key × AllByRecursion IsSettledField (iter_rest l.name-iterator)))
