use Rattle.std.proofs.Common.{◌≡◌, ◌++◌, map, take}
use Rattle.std.specs.List.{flat_map}
use Rattle.bib_syntax.specs.Views.{piece_of}
use Rattle.bib_findings.specs.UnusedDefinitions.{other_abbreviation_in}
use Rattle.bib_findings.specs.UsedNames.{borrowed_texts}
use Rattle.bib_findings.proofs.unused_definitions.push_of_definition.Given as goal

-- the names in the first pieces were appended, without the definition's own name
abbrev pub invariant-pieces : goal.invariant-pieces
invariant-pieces l =
    borrowed_texts l.names.items
    ≡ borrowed_texts l.initial.names.items
    ++ flat_map (other_abbreviation_in l.definition.key.v.now) (map piece_of (take l.piece-index l.definition.value.v.items))
