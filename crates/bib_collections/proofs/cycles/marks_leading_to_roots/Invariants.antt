use Rattle.std.proofs.Common.{◌≡◌, length}
use Rattle.bib_collections.specs.Rows.{rows}
use Rattle.bib_collections.specs.Search.{AllLeadToThemselves, IsClosed}
use Rattle.bib_collections.proofs.cycles.marks_leading_to_roots.Given as goal

abbrev pub invariant-loop-index : goal.invariant-loop-index
invariant-loop-index l = record {
  as_long : length l.marks.items ≡ length l.refs;
  closed : IsClosed (rows l.inside.items) l.marks.items;
  returning : AllLeadToThemselves (rows l.refs) l.marks.items;
}
