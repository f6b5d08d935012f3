use Rattle.std.proofs.Common.{◌≡◌, ◌++◌, length, map, take}
use Rattle.std.specs.BTreeMap.{get_by_text}
use Rattle.bib_syntax.specs.Views.{entry_reading_of}
use Rattle.bib_findings.specs.Duplicates.{duplicates, entries_at}
use Rattle.bib_findings.specs.Seen.{AreFirstWith, AreThere}
use Rattle.bib_findings.proofs.duplicates.add_duplicates_among.Given as goal

-- the findings of the first entries were appended, and each identity has the indices of the first of these entries that have it
abbrev pub invariant-origins : goal.invariant-origins
invariant-origins l = record {
  there : AreThere (get_by_text l.seen) (length l.said);
  first : AreFirstWith (get_by_text l.seen) (map entry_reading_of l.said)
      (entries_at (map entry_reading_of l.said) (take l.index-index l.origins));
  added : l.found.items ≡ l.initial.found.items
      ++ duplicates (entries_at (map entry_reading_of l.said) (take l.index-index l.origins));
}
