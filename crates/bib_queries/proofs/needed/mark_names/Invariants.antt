use Rattle.std.proofs.Common.{◌≡◌, take, length, map}
use Rattle.bib_queries.specs.Searching.{AreHoldersIn, LooksUp, Marks}
use Rattle.bib_queries.proofs.needed.mark_names.Given as goal

abbrev pub invariant-names : goal.invariant-names
invariant-names l = record {
  length : length l.marks ≡ length l.initial.marks;
  marks : Marks (AreHoldersIn l.initial.holders (map (λ n. n.now) l.names)) l.initial.marks l.initial.pending.items l.marks l.pending.items;
  expands : LooksUp l.initial.holders (map (λ n. n.now) (take l.name-index l.names)) l.marks l.holders;
}
