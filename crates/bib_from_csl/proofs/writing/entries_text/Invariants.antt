use Rattle.std.proofs.Common.{◌≡◌, ◌++◌, drop}
use Rattle.bib_from_csl.specs.FromItems.{entries_from, items_source}
use Rattle.bib_from_csl.proofs.writing.entries_text.Given as goal

abbrev pub invariant-items : goal.invariant-items
invariant-items l = l.out ++ entries_from l.first (drop l.item-index l.items) ≡ items_source l.items
