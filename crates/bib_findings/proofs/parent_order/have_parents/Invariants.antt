use Rattle.std.proofs.Common.{◌≡◌, drop, map}
use Rattle.std.specs.List.{list_any}
use Rattle.bib_syntax.specs.Views.{entry_reading_of}
use Rattle.bib_findings.specs.ParentOrder.{has_parent}
use Rattle.bib_findings.proofs.parent_order.have_parents.Given as goal

-- the remaining entries decide
abbrev pub invariant-entries : goal.invariant-entries
invariant-entries l =
    list_any has_parent (map entry_reading_of (drop l.one-index l.said)) ≡ list_any has_parent (map entry_reading_of l.said)
