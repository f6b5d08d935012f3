use Rattle.std.proofs.Common.{◌≡◌, drop, map}
use Rattle.bib_syntax.specs.Views.{entry_reading_of}
use Rattle.bib_findings.specs.Duplicates.{entries_at}
use Rattle.bib_findings.specs.Seen.{first_alike}
use Rattle.bib_findings.proofs.duplicates.first_alike.Given as goal

-- the first entry that no field tells apart is the first such one of the remaining entries
abbrev pub invariant-indices : goal.invariant-indices
invariant-indices l =
    first_alike (entry_reading_of l.one) (entries_at (map entry_reading_of l.said) l.indices)
    ≡ first_alike (entry_reading_of l.one) (entries_at (map entry_reading_of l.said) (drop l.index-index l.indices))
