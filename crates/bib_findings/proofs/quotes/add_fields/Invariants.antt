use Rattle.std.proofs.Common.{◌≡◌, ◌++◌, map, take}
use Rattle.std.specs.List.{flat_map}
use Rattle.bib_syntax.specs.Views.{field_of}
use Rattle.bib_findings.specs.Quotes.{field_quote}
use Rattle.bib_findings.proofs.quotes.add_fields.Given as goal

-- the findings of the first fields were appended
abbrev pub invariant-fields : goal.invariant-fields
invariant-fields l =
    l.found.items ≡ l.initial.found.items ++ flat_map (field_quote l.text l.key) (map field_of (take l.field-index l.fields))
