use Rattle.std.proofs.Common.{◌≡◌, [], replicate}
use Rattle.bib_collections.specs.Rows.{rows}
use Rattle.bib_collections.proofs.Fill.{IsFilled}
use Rattle.bib_collections.proofs.worklist.waiting_lists.Given as goal

abbrev pub invariant-loop-index : goal.invariant-loop-index
invariant-loop-index l = rows l.waiting.items ≡ replicate l._index []

abbrev pub invariant-loop-entry : goal.invariant-loop-entry
invariant-loop-entry l = IsFilled (rows l.refs) (rows l.waiting.items) l.entry 0

abbrev pub invariant-loop-r : goal.invariant-loop-r
invariant-loop-r l = IsFilled (rows l.refs) (rows l.waiting.items) l.entry l.r-index
