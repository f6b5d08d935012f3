use Rattle.std.proofs.Common.{map, take}
use Rattle.std.specs.BTreeMap.{get_by_text}
use Rattle.bib_syntax.specs.Views.{field_of}
use Rattle.bib_findings.specs.LastDefinitions.{AreLastDefinitions}
use Rattle.bib_findings.proofs.definition_cases.last_definitions.Given as goal

-- the map contains the last of the first definitions
abbrev pub invariant-definitions : goal.invariant-definitions
invariant-definitions l = AreLastDefinitions (get_by_text l.lasts) (map field_of (take l.definition-index l.definitions))
