use Rattle.std.proofs.Common.{◌≡◌, ℕ, List, take}
use Rattle.std.specs.List.{find}
use Rattle.edit_resolve.specs.Resolved.{given_fields_by, is_read_as}
use Rattle.edit_resolve.specs.Working.{fields_at, given_at}
use Rattle.edit_resolve.proofs.giving.given.Given as goal

abbrev pub invariant-parents : goal.invariant-parents
invariant-parents l =
    (name : List ℕ) → given_at l.given name ≡ find (is_read_as name) (given_fields_by (fields_at l.found) (take l.parent-index l.parents))
