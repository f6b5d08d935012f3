use Rattle.std.proofs.Common.{◌≡◌, [], ◌++◌, map, take}
use Rattle.std.specs.BTreeSet.{contains_text}
use Rattle.bib_syntax.specs.Views.{field_of}
use Rattle.bib_findings.specs.After.{each_after}
use Rattle.bib_findings.specs.Fields.{repeated_after}
use Rattle.bib_findings.proofs.RepeatedFacts.{AreSeen}
use Rattle.bib_findings.proofs.fields.add_repeated_of_many.Given as goal

-- the set contains the names of the first fields in lowercase, and a finding was appended for each of these that is repeated
abbrev pub invariant-fields : goal.invariant-fields
invariant-fields l = record {
  seen : AreSeen (contains_text l.seen) (map field_of (take l.field-index l.said.v.fields.items));
  found : l.found.items
      ≡ l.initial.found.items
      ++ each_after (repeated_after l.said.v.key.v.now) [] (map field_of (take l.field-index l.said.v.fields.items));
}
