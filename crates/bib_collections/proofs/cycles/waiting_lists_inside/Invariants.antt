use Rattle.std.proofs.Common.{◌≡◌, [], replicate}
use Rattle.bib_collections.specs.Rows.{rows}
use Rattle.bib_collections.specs.Search.{AreBackInside}
use Rattle.bib_collections.proofs.cycles.waiting_lists_inside.Given as goal

abbrev pub invariant-loop-index : goal.invariant-loop-index
invariant-loop-index l = rows l.inside.items ≡ replicate l._index []

abbrev pub invariant-loop-entry : goal.invariant-loop-entry
invariant-loop-entry l = AreBackInside (rows l.refs) l.roots (rows l.inside.items)

abbrev pub invariant-loop-r : goal.invariant-loop-r
invariant-loop-r l = AreBackInside (rows l.refs) l.roots (rows l.inside.items)
