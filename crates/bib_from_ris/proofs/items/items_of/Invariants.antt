use Rattle.std.proofs.Common.{◌≡◌, ◌≤◌, ◌+◌, ◌++◌, drop, length}
use Rattle.bib_from_ris.specs.RisItems.{record_items}
use Rattle.bib_from_ris.proofs.items.items_of.Given as goal

abbrev pub invariant-sections : goal.invariant-sections
invariant-sections l =
    (l.items ++ record_items (length l.items + 1) (drop l.section-index l.sections) ≡ record_items 1 l.sections)
    × (length l.items ≤ l.section-index)
