use Rattle.std.proofs.Common.{◌≡◌, ◌<◌, length, map, take}
use Rattle.std.specs.List.{All, filter}
use Rattle.bib_syntax.specs.Views.{entry_reading_of}
use Rattle.bib_findings.specs.Duplicates.{entries_at}
use Rattle.bib_findings.specs.ParentOrder.{has_bibtex_type}
use Rattle.bib_findings.proofs.parent_order.bibtex_origins.Given as goal

-- the result contains the indices of those of the first entries with a type of BibTeX's standard styles
abbrev pub invariant-origins : goal.invariant-origins
invariant-origins l = record {
  there : All (λ index. index < length l.said) l.chosen.items;
  chosen : entries_at (map entry_reading_of l.said) l.chosen.items
      ≡ filter has_bibtex_type (entries_at (map entry_reading_of l.said) (take l.index l.origins));
}
