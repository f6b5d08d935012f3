use Rattle.std.proofs.Common.{◌≡◌, ℕ, List, take}
use Rattle.std.specs.Prelude.{◌||◌}
use Rattle.std.specs.BTreeSet.{contains_text}
use Rattle.std.specs.List.{list_any}
use Rattle.edit_merge.specs.Picked.{is_changed_name}
use Rattle.edit_merge.proofs.groups.insert_changed.Given as goal

-- the set has the own names of the changed names so far, and those that it had
abbrev pub invariant-names : goal.invariant-names
invariant-names l =
    (own : List ℕ) → contains_text l.set own
    ≡ (list_any (is_changed_name l.first l.second own) (take l.name-index l.names) || contains_text l.initial.set own)
