use Rattle.std.proofs.Common.{◌≡◌, ◌++◌, map, take}
use Rattle.std.specs.List.{filter_map}
use Rattle.edit_resolve.specs.Parents.{parent, parent_index}
use Rattle.edit_resolve.specs.Working.{readings}
use Rattle.edit_resolve.proofs.parents.push_found.Given as goal

abbrev pub invariant-keys : goal.invariant-keys
invariant-keys l =
    l.parents.items
    ≡ l.initial.parents.items
    ++ map (parent l.link) (filter_map (parent_index (readings l.file) l.link) (map (λ key. key.now) (take l.key-index l.keys)))
