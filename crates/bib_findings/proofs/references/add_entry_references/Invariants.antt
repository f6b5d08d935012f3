use Rattle.std.proofs.Common.{◌≡◌, ◌++◌, take}
use Rattle.std.specs.List.{flat_map}
use Rattle.bib_tables.specs.Requirements.{texts}
use Rattle.bib_syntax.specs.Views.{entry_reading_of}
use Rattle.bib_findings.specs.References.{field_references}
use Rattle.bib_findings.proofs.references.add_entry_references.Given as goal

-- the findings of the first fields were appended
abbrev pub invariant-fields : goal.invariant-fields
invariant-fields l =
    l.found.items
    ≡ l.initial.found.items
    ++ flat_map (field_references l.names (entry_reading_of l.said) l.entry)
    (texts (take l.field-index l.fields))
