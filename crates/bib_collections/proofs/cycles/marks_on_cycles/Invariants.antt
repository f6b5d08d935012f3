use Rattle.bib_collections.specs.Rows.{rows}
use Rattle.bib_collections.proofs.Roots.{AreMarkedTo}
use Rattle.bib_collections.proofs.cycles.marks_on_cycles.Given as goal

abbrev pub invariant-loop-index : goal.invariant-loop-index
invariant-loop-index l = AreMarkedTo (rows l.refs) l.index l.marks.items
