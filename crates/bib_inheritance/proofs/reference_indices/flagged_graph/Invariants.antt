use Rattle.std.proofs.Common.{◌≡◌, map, take}
use Rattle.bib_collections.specs.Rows.{rows}
use Rattle.bib_inheritance.proofs.FlagFacts.{looks_by}
use Rattle.bib_inheritance.specs.Resolving.{graph_by}
use Rattle.bib_inheritance.proofs.reference_indices.flagged_graph.Given as goal

-- the references of the entries so far, and for each of them whether it is flagged and lacks a required date
abbrev pub invariant-entries : goal.invariant-entries
invariant-entries l = record {
  graph : rows l.refs.items ≡ graph_by l.names (take l.index l.entries);
  looks : l.looks.items ≡ map looks_by (take l.index l.entries);
}
