use Rattle.std.proofs.Common.{◌≡◌, length, take}
use Rattle.bib_collections.specs.Rows.{rows}
use Rattle.bib_inheritance.specs.Resolving.{graph_by}
use Rattle.bib_findings.proofs.ReachFacts.{HasReferrers}
use Rattle.bib_findings.proofs.lacking.children.Given as goal

-- the lists have the references of the first entries, reversed
abbrev pub invariant-entries : goal.invariant-entries
invariant-entries l = record {
  length : length (rows l.lists.items) ≡ length l.own;
  reversed : HasReferrers (graph_by l.names (take l.index l.own)) (rows l.lists.items);
}
