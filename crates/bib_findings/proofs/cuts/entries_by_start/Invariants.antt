use Rattle.std.proofs.Common.{map, take}
use Rattle.bib_syntax.specs.Views.{entry_reading_of}
use Rattle.bib_findings.specs.Starts.{AreEntriesByStart}
use Rattle.bib_findings.proofs.cuts.entries_by_start.Given as goal

-- the map contains the first of the entries that begin at each offset
abbrev pub invariant-entries : goal.invariant-entries
invariant-entries l = AreEntriesByStart l.entries (map entry_reading_of (take l.one-index l.said))
