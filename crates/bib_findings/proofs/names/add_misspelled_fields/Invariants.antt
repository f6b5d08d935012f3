use Rattle.std.proofs.Common.{◌≡◌, ◌++◌, map, take}
use Rattle.std.specs.BTreeMap.{get_by_text}
use Rattle.std.specs.List.{flat_map}
use Rattle.bib_syntax.specs.Views.{field_of}
use Rattle.bib_findings.specs.Met.{AreFieldNames}
use Rattle.bib_findings.specs.Names.{misspelled_of}
use Rattle.bib_findings.proofs.names.add_misspelled_fields.Given as goal

-- the cache is correct, and a finding was appended for each misspelled field of the first fields
abbrev pub invariant-fields : goal.invariant-fields
invariant-fields l = record {
  met : AreFieldNames (get_by_text l.met);
  added : l.found.items
      ≡ l.initial.found.items
      ++ flat_map (misspelled_of l.said.v.key.v.now) (map field_of (take l.field-index l.said.v.fields.items));
}
