use Rattle.std.proofs.Common.{◌≡◌, ◌<◌, length}
use Rattle.std.specs.List.{All}
use Rattle.bib_collections.specs.Rows.{rows}
use Rattle.bib_collections.specs.Search.{IsClosed, AreRoots, AreSuspects}
use Rattle.bib_collections.proofs.cycles.search.Given as goal

abbrev pub decreases-loop-root : goal.decreases-loop-root
decreases-loop-root l = length l.order.items

abbrev pub invariant-loop-root : goal.invariant-loop-root
invariant-loop-root l = record {
  marks : length l.marks.items ≡ length l.refs;
  as_long : length l.suspects.items ≡ length l.refs;
  as_many : length l.roots.items ≡ length l.refs;
  order : All (λ index. index < length l.refs) l.order.items;
  closed : IsClosed (rows l.refs) l.marks.items;
  suspects : AreSuspects (rows l.refs) l.suspects.items;
  roots : AreRoots (rows l.refs) l.roots.items;
}
