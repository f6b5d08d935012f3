use Rattle.std.proofs.Common.{◌≡◌, ◌++◌, map, take}
use Rattle.bib_syntax.specs.Views.{field_of}
use Rattle.std.specs.String.{string_bytes}
use Rattle.edit_merge.specs.UnitNames.{abbreviation_name}
use Rattle.edit_merge.proofs.names.push_definitions.Given as goal

-- the names that were there, and those so far
abbrev pub invariant-definitions : goal.invariant-definitions
invariant-definitions l =
    let so_far = map field_of (take l.definition-index l.definitions) in
    map string_bytes l.names.items ≡ map string_bytes l.initial.names.items ++ map (λ f. abbreviation_name f.name.text) so_far
