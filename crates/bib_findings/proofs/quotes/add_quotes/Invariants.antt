use Rattle.std.proofs.Common.{◌≡◌, ◌++◌, map, take}
use Rattle.bib_syntax.specs.Views.{entry_reading_of}
use Rattle.bib_findings.specs.Duplicates.{entries_at}
use Rattle.bib_findings.specs.Quotes.{quote_findings}
use Rattle.bib_findings.proofs.quotes.add_quotes.Given as goal

-- the findings of the first entries were appended
abbrev pub invariant-origins : goal.invariant-origins
invariant-origins l =
    l.found.items
    ≡ l.initial.found.items ++ quote_findings l.text (entries_at (map entry_reading_of l.said) (take l.index-index l.origins))
