use Rattle.std.proofs.Common.{◌≡◌, take}
use Rattle.bib_collections.specs.Rows.{rows}
use Rattle.bib_inheritance.specs.Resolving.{graph_by}
use Rattle.bib_inheritance.proofs.reference_indices.graph.Given as goal

-- the references of the entries so far
abbrev pub invariant-entries : goal.invariant-entries
invariant-entries l = rows l.refs.items ≡ graph_by l.names (take l.entry-index l.entries)
