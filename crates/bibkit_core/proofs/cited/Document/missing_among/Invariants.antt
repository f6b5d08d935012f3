use Rattle.std.proofs.Common.{◌≡◌, map, take}
use Rattle.bib_syntax.specs.Views.{entry_reading_of}
use Rattle.bibkit_core.specs.Compared.{missing_among}
use Rattle.bibkit_core.proofs.cited.Document.missing_among.Given as goal

abbrev pub invariant-citations : goal.invariant-citations
invariant-citations l = l.found.items ≡ missing_among (map entry_reading_of l.entries) (take l.citation-index l.citation-items)
