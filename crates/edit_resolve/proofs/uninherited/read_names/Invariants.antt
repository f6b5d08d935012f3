use Rattle.std.proofs.Common.{◌≡◌, ℕ, List, map, take}
use Rattle.std.specs.BTreeSet.{contains_text}
use Rattle.std.specs.List.{list_any}
use Rattle.edit_resolve.specs.Resolved.{is_read_as}
use Rattle.edit_resolve.specs.Working.{named_of}
use Rattle.edit_resolve.proofs.uninherited.read_names.Given as goal

-- the set has the names of the fields so far
abbrev pub invariant-fields : goal.invariant-fields
invariant-fields l =
    (name : List ℕ) → contains_text l.names name ≡ list_any (is_read_as name) (map named_of (take l.field-index l.fields))
