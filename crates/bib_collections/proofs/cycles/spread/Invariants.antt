use Rattle.std.proofs.Common.{◌+◌, ◌*◌, length}
use Rattle.std.specs.List.{All}
use Rattle.bib_collections.specs.Rows.{rows}
use Rattle.bib_collections.specs.Search.{AreReached}
use Rattle.bib_collections.proofs.Search.{unmarked, IsSearch, IsAhead, IsLooking}
use Rattle.bib_collections.proofs.cycles.spread.Given as goal

abbrev pub decreases-loop-index : goal.decreases-loop-index
decreases-loop-index l = 2 * unmarked l.marks + length l.pending.items

abbrev pub invariant-loop-index : goal.invariant-loop-index
invariant-loop-index l = record {
  search : IsSearch (rows l.refs) l.start l.fn.marks l.marks l.pending.items;
  found : All (IsAhead (rows l.refs) l.start l.fn.marks l.marks) l.pending.items;
  reached : AreReached (rows l.refs) l.start l.reached.items;
}

abbrev pub invariant-loop-r : goal.invariant-loop-r
invariant-loop-r l = record {
  looking : IsLooking (rows l.refs) l.start l.fn.marks l.index l.r-items l.r-index
      (2 * unmarked l.initial.marks + length l.initial.pending.items) l.marks l.pending.items;
  reached : AreReached (rows l.refs) l.start l.reached.items;
}
