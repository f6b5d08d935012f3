use Rattle.std.proofs.Common.{◌≡◌, [], ◌++◌, map, take}
use Rattle.bib_syntax.specs.Views.{field_of}
use Rattle.bib_findings.specs.After.{each_after}
use Rattle.bib_findings.specs.Fields.{repeated_after}
use Rattle.bib_findings.proofs.fields.add_repeated_of_few.Given as goal

-- a finding was appended for each of the first fields that is repeated
abbrev pub invariant-fields : goal.invariant-fields
invariant-fields l =
    l.found.items
    ≡ l.initial.found.items
    ++ each_after (repeated_after l.said.v.key.v.now) [] (map field_of (take l.index l.said.v.fields.items))
