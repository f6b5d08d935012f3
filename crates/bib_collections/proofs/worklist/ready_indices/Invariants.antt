use Rattle.bib_collections.proofs.Fill.{IsReadyTo}
use Rattle.bib_collections.proofs.worklist.ready_indices.Given as goal

abbrev pub invariant-loop-index : goal.invariant-loop-index
invariant-loop-index l = IsReadyTo l.missing l.ready.items l.index
