use Rattle.std.proofs.Common.{map, take}
use Rattle.std.specs.BTreeMap.{get_by_text}
use Rattle.bib_syntax.specs.Views.{entry_reading_of}
use Rattle.bib_findings.specs.Adding.{Adds}
use Rattle.bib_findings.specs.Entries.{AreOfEach}
use Rattle.bib_findings.specs.Findings.{AreOfKept}
use Rattle.bib_findings.specs.Lacking.{with_flags}
use Rattle.bib_findings.specs.Met.{AreFieldNames}
use Rattle.bib_findings.proofs.findings.add_entries.Given as goal

-- the cache is correct, and the findings of the first entries were appended
abbrev pub invariant-entries : goal.invariant-entries
invariant-entries l = record {
  met : AreFieldNames (get_by_text l.met);
  added : Adds
      (AreOfEach AreOfKept (map entry_reading_of l.said) (take l.index l.origins) (take l.index (with_flags l.lacking l.entries)))
      l.initial.found.items l.found.items;
}
