use Rattle.std.proofs.Common.{◌≡◌, ◌++◌, map, take}
use Rattle.std.specs.List.{flat_map}
use Rattle.bib_tables.specs.Requirements.{texts}
use Rattle.bib_syntax.specs.Views.{field_of}
use Rattle.bib_findings.specs.Fields.{empty_of}
use Rattle.bib_findings.proofs.fields.add_empty_among.Given as goal

-- a finding was appended for each of the first fields that is empty, reported and not missing
abbrev pub invariant-fields : goal.invariant-fields
invariant-fields l =
    l.found.items ≡ l.initial.found.items
    ++ flat_map (empty_of l.key (texts l.missing) l.inherits) (map field_of (take l.field-index l.fields))
