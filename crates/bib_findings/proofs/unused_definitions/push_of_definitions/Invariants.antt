use Rattle.std.proofs.Common.{◌≡◌, ◌++◌, map, take}
use Rattle.std.specs.List.{flat_map}
use Rattle.bib_syntax.specs.Views.{field_of}
use Rattle.bib_findings.specs.UnusedDefinitions.{used_by_definition}
use Rattle.bib_findings.specs.UsedNames.{borrowed_texts}
use Rattle.bib_findings.proofs.unused_definitions.push_of_definitions.Given as goal

-- the names in the values of the first definitions were appended, without the own name of each definition
abbrev pub invariant-definitions : goal.invariant-definitions
invariant-definitions l =
    borrowed_texts l.names.items
    ≡ borrowed_texts l.initial.names.items
    ++ flat_map used_by_definition (map field_of (take l.definition-index l.definitions))
