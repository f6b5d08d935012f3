use Rattle.bib_collections.specs.Rows.{rows}
use Rattle.edit_sort.proofs.RowFacts.{AreFirstCut}
use Rattle.edit_sort.proofs.ranks.cut.Given as goal

-- the references of the indices so far that are on a cycle are removed
abbrev pub invariant-marks : goal.invariant-marks
invariant-marks l = AreFirstCut (rows l.fn.graph.items) l.marks l.index (rows l.graph.items)
