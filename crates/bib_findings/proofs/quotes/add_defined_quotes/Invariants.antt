use Rattle.std.proofs.Common.{◌≡◌, ◌++◌, map, take}
use Rattle.bib_syntax.specs.Views.{field_of}
use Rattle.bib_findings.specs.Quotes.{defined_quotes}
use Rattle.bib_findings.proofs.quotes.add_defined_quotes.Given as goal

-- the findings of the first definitions were appended
abbrev pub invariant-definitions : goal.invariant-definitions
invariant-definitions l =
    l.found.items ≡ l.initial.found.items ++ defined_quotes l.text (map field_of (take l.definition-index l.definitions))
