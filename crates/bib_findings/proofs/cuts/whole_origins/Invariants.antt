use Rattle.std.proofs.Common.{◌≡◌, ◌<◌, length, map, take}
use Rattle.std.specs.List.{All}
use Rattle.bib_syntax.specs.Views.{entry_reading_of}
use Rattle.bib_findings.specs.Cuts.{whole_among}
use Rattle.bib_findings.specs.Duplicates.{entries_at}
use Rattle.bib_findings.proofs.cuts.whole_origins.Given as goal

-- the result contains the indices of those of the first entries that aren't cut
abbrev pub invariant-origins : goal.invariant-origins
invariant-origins l = record {
  there : All (λ index. index < length l.said) l.whole.items;
  whole : entries_at (map entry_reading_of l.said) l.whole.items
      ≡ whole_among l.skipped (entries_at (map entry_reading_of l.said) (take l.index l.origins));
}
