use Rattle.std.proofs.Common.{◌≡◌, ◌++◌, map, take}
use Rattle.std.specs.String.{string_bytes}
use Rattle.edit_merge.specs.UnitNames.{abbreviation_name}
use Rattle.edit_merge.proofs.names.push_abbreviations.Given as goal

-- the names that were there, and those so far
abbrev pub invariant-abbreviations : goal.invariant-abbreviations
invariant-abbreviations l =
    map string_bytes l.names.items
    ≡ map string_bytes l.initial.names.items ++ map abbreviation_name (map (λ a. a.now) (take l.abbreviation-index l.abbreviations))
