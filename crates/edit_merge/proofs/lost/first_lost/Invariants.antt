use Rattle.std.proofs.Common.{◌≡◌, drop, map}
use Rattle.std.specs.List.{find}
use Rattle.std.specs.String.{string_bytes}
use Rattle.edit_merge.specs.NameSets.{is_lost_by}
use Rattle.edit_merge.proofs.lost.first_lost.Given as goal

-- the first lost name is among those that are left
abbrev pub invariant-defined : goal.invariant-defined
invariant-defined l =
    find (is_lost_by l.names) (map string_bytes (drop l.name-index l.defined)) ≡ find (is_lost_by l.names) (map string_bytes l.defined)
