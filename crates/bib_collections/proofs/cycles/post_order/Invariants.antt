use Rattle.std.proofs.Common.{◌≡◌, ◌+◌, ◌*◌, ◌<◌, length}
use Rattle.std.specs.List.{All}
use Rattle.bib_collections.proofs.Search.{unmarked}
use Rattle.bib_collections.proofs.cycles.post_order.Given as goal

abbrev pub invariant-loop-root : goal.invariant-loop-root
invariant-loop-root l = record {
  marks : length l.marks.items ≡ length l.refs;
  looked : length l.looked.items ≡ length l.refs;
  order : All (λ index. index < length l.refs) l.order.items;
}

abbrev pub decreases-loop-index : goal.decreases-loop-index
decreases-loop-index l = 2 * unmarked l.marks.items + length l.path.items

abbrev pub invariant-loop-index : goal.invariant-loop-index
invariant-loop-index l = record {
  marks : length l.marks.items ≡ length l.refs;
  looked : length l.looked.items ≡ length l.refs;
  order : All (λ index. index < length l.refs) l.order.items;
  path : All (λ index. index < length l.refs) l.path.items;
}
