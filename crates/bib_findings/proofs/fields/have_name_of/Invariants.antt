use Rattle.std.proofs.Common.{◌≡◌, drop, map}
use Rattle.std.specs.List.{list_any}
use Rattle.bib_syntax.specs.Views.{field_of}
use Rattle.bib_findings.specs.Entries.{have_one_name}
use Rattle.bib_findings.proofs.fields.have_name_of.Given as goal

-- none of the first fields has the name
abbrev pub invariant-fields : goal.invariant-fields
invariant-fields l =
    list_any (have_one_name (field_of l.other)) (map field_of l.fields)
    ≡ list_any (have_one_name (field_of l.other)) (map field_of (drop l.field-index l.fields))
