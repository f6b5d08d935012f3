use Rattle.std.proofs.Common.{◌+◌, length}
use Rattle.bib_collections.specs.Rows.{rows}
use Rattle.bib_findings.proofs.ReachFacts.{IsSearch, steps_left}
use Rattle.bib_findings.proofs.lacking.mark_reached.Given as goal

abbrev pub decreases-pending : goal.decreases-pending
decreases-pending l = steps_left l.marks.items (rows l.refs) + length l.pending.items

-- the state of the search
abbrev pub invariant-pending : goal.invariant-pending
invariant-pending l = IsSearch (rows l.refs) l.fn.starts.items l.marks.items l.pending.items
