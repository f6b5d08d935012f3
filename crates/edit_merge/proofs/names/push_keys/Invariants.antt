use Rattle.std.proofs.Common.{◌≡◌, ◌++◌, map, take}
use Rattle.std.specs.String.{string_bytes}
use Rattle.edit_merge.specs.UnitNames.{key_name}
use Rattle.edit_merge.proofs.names.push_keys.Given as goal

-- the names that were there, and those so far
abbrev pub invariant-keys : goal.invariant-keys
invariant-keys l =
    map string_bytes l.names.items ≡ map string_bytes l.initial.names.items ++ map key_name (map (λ k. k.now) (take l.key-index l.keys))
