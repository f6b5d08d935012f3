use Rattle.std.proofs.Common.{◌≡◌, ◌++◌, map, take}
use Rattle.std.specs.BTreeMap.{get_by_text}
use Rattle.bib_syntax.specs.Views.{entry_reading_of}
use Rattle.bib_findings.specs.Duplicates.{entries_at}
use Rattle.bib_findings.specs.FirstKeys.{AreFirstKeys}
use Rattle.bib_findings.specs.KeyCases.{case_findings}
use Rattle.bib_findings.proofs.key_cases.add_cases.Given as goal

-- the map contains the first keys of the first entries, and the findings of these entries were appended
abbrev pub invariant-origins : goal.invariant-origins
invariant-origins l = record {
  firsts : AreFirstKeys (get_by_text l.firsts) (entries_at (map entry_reading_of l.said) (take l.index-index l.origins));
  found : l.found.items
      ≡ l.initial.found.items ++ case_findings (entries_at (map entry_reading_of l.said) (take l.index-index l.origins));
}
