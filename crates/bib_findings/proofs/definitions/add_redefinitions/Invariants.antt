use Rattle.std.proofs.Common.{◌≡◌, ◌++◌, map, take}
use Rattle.std.specs.BTreeMap.{get_by_text}
use Rattle.bib_syntax.specs.Views.{field_of}
use Rattle.bib_findings.specs.Definitions.{definition_findings}
use Rattle.bib_findings.specs.LastDefinitions.{AreLastDefinitions}
use Rattle.bib_findings.proofs.definitions.add_redefinitions.Given as goal

-- the map contains the last of the first definitions, and the findings of these definitions were appended
abbrev pub invariant-definitions : goal.invariant-definitions
invariant-definitions l = record {
  lasts : AreLastDefinitions (get_by_text l.lasts) (map field_of (take l.definition-index l.definitions));
  found : l.found.items
      ≡ l.initial.found.items ++ definition_findings (map field_of (take l.definition-index l.definitions));
}
