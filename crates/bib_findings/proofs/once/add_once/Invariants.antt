use Rattle.std.proofs.Common.{◌≡◌, ◌++◌, ◌≤◌, drop, length, map}
use Rattle.std.specs.BTreeMap.{get_by_text}
use Rattle.bib_syntax.specs.Views.{entry_reading_of}
use Rattle.bib_findings.specs.Duplicates.{entries_at}
use Rattle.bib_findings.specs.Met.{AreFieldNames}
use Rattle.bib_findings.specs.Once.{once_findings}
use Rattle.bib_findings.proofs.once.add_once.Given as goal

-- the cache is correct, and the findings so far and those of the other files are those of all files
abbrev pub invariant-ends : goal.invariant-ends
invariant-ends l = record {
  met : AreFieldNames (get_by_text l.met);
  found : l.found.items ++ once_findings (drop l.end-index l.ends) (entries_at (map entry_reading_of l.said) (drop l.first l.origins))
      ≡ l.initial.found.items ++ once_findings l.ends (entries_at (map entry_reading_of l.said) l.origins);
  within : l.first ≤ length l.origins;
}
