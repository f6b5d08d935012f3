use Rattle.std.proofs.Common.{◌≡◌, length, take}
use Rattle.bib_collections.specs.Rows.{rows}
use Rattle.bib_findings.proofs.ReachFacts.{IsAdded}
use Rattle.bib_findings.proofs.lacking.add_child.Given as goal

-- the child was added to the lists of the first parents
abbrev pub invariant-parents : goal.invariant-parents
invariant-parents l = record {
  length : length l.lists ≡ length l.initial.lists;
  added : IsAdded (rows l.initial.lists) (rows l.lists) (take l.parent-index l.parents) l.child;
}
