use Rattle.std.proofs.Common.{◌≡◌, take, length}
use Rattle.std.specs.List.{All, Contains}
use Rattle.bib_queries.specs.Needed.{IsMarked}
use Rattle.bib_queries.specs.Searching.{Marks}
use Rattle.bib_queries.proofs.needed.mark_all.Given as goal

abbrev pub invariant-indices : goal.invariant-indices
invariant-indices l = record {
  length : length l.marks ≡ length l.initial.marks;
  marks : Marks (Contains l.indices) l.initial.marks l.initial.pending.items l.marks l.pending.items;
  all : All (IsMarked l.marks) (take l.index-index l.indices);
}
