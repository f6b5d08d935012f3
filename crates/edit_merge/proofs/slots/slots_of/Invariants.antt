use Rattle.std.proofs.Common.{◌≡◌, ◌++◌, drop, map}
use Rattle.edit_merge.specs.Picked.{slot_of}
use Rattle.edit_merge.specs.Views.{versions_of}
use Rattle.edit_merge.proofs.slots.slots_of.Given as goal

-- the slots so far, and those of the names that are left, are the slots of all names
abbrev pub invariant-names : goal.invariant-names
invariant-names l =
    l.slots.items ++ map (slot_of (versions_of l.versions)) (map (λ n. n.now) (drop l.name-index l.names))
    ≡ map (slot_of (versions_of l.versions)) (map (λ n. n.now) l.names)
