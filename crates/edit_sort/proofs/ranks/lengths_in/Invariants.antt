use Rattle.std.proofs.Common.{length, replicate}
use Rattle.bib_collections.specs.Rows.{rows}
use Rattle.bib_collections.specs.Solving.{IsSolvedTo}
use Rattle.edit_sort.specs.Ranks.{length_by}
use Rattle.edit_sort.proofs.ranks.lengths_in.Given as goal

-- the lengths at the indices of the order so far are computed
abbrev pub invariant-order : goal.invariant-order
invariant-order l =
    IsSolvedTo 0 (length_by (length l.graph) l.marks) (rows l.graph) l.order (replicate (length l.graph) 0) l.index-index l.lengths.items
