use Rattle.std.proofs.Common.{◌≡◌, ◌++◌, map, take}
use Rattle.std.specs.List.{flat_map}
use Rattle.bib_syntax.specs.Views.{field_of}
use Rattle.bib_findings.specs.UnusedDefinitions.{abbreviations_in}
use Rattle.bib_findings.specs.UsedNames.{borrowed_texts}
use Rattle.bib_findings.proofs.unused_definitions.push_of_entry.Given as goal

-- the names in the first fields were appended
abbrev pub invariant-fields : goal.invariant-fields
invariant-fields l =
    borrowed_texts l.names.items
    ≡ borrowed_texts l.initial.names.items
    ++ flat_map abbreviations_in (map field_of (take l.field-index l.said.v.fields.items))
