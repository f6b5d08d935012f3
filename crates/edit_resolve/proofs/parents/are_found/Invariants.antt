use Rattle.std.proofs.Common.{◌≡◌, map, drop, is_some}
use Rattle.std.specs.List.{list_all}
use Rattle.edit_resolve.specs.Parents.{parent_index}
use Rattle.edit_resolve.specs.Working.{readings}
use Rattle.edit_resolve.proofs.parents.are_found.Given as goal

-- the result for all keys is that for the keys still to visit
abbrev pub invariant-keys : goal.invariant-keys
invariant-keys l =
    list_all (λ key. is_some (parent_index (readings l.file) l.link key)) (map (λ key. key.now) l.keys)
    ≡ list_all (λ key. is_some (parent_index (readings l.file) l.link key)) (map (λ key. key.now) (drop l.key-index l.keys))
