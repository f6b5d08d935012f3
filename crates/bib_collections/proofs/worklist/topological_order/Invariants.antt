use Rattle.std.proofs.Common.{◌≡◌, ◌+◌, ◌<◌, ℕ, length}
use Rattle.std.specs.List.{sum}
use Rattle.bib_collections.specs.Rows.{rows}
use Rattle.bib_collections.specs.Work.{IsWork, missing_at}
use Rattle.bib_collections.proofs.worklist.topological_order.Given as goal

abbrev pub decreases-loop-index : goal.decreases-loop-index
decreases-loop-index l = sum l.missing.items + length l.ready.items

abbrev pub invariant-loop-index : goal.invariant-loop-index
invariant-loop-index l = IsWork (rows l.refs) l.order.items l.missing.items l.ready.items

abbrev pub invariant-loop-index-2 : goal.invariant-loop-index-2
invariant-loop-index-2 l = (p : ℕ) → p < l.index → missing_at l.missing.items p ≡ 0
