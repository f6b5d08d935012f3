use Rattle.std.proofs.Common.{◌≡◌, ◌+◌, drop, map}
use Rattle.bib_syntax.specs.Views.{entry_reading_of}
use Rattle.bib_findings.specs.Duplicates.{entries_at}
use Rattle.bib_findings.specs.Once.{count_begun}
use Rattle.bib_findings.proofs.once.count_begun.Given as goal

-- the count for all entries is the number of those so far, plus the count for the others
abbrev pub invariant-origins : goal.invariant-origins
invariant-origins l =
    count_begun l.end (entries_at (map entry_reading_of l.said) l.origins)
    ≡ l.count + count_begun l.end (entries_at (map entry_reading_of l.said) (drop l.count l.origins))
