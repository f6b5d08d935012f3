use Rattle.std.proofs.Common.{◌≡◌, map, take}
use Rattle.bib_collections.specs.Rows.{rows}
use Rattle.edit_resolve.proofs.parents.graph.Given as goal

abbrev pub invariant-parents : goal.invariant-parents
invariant-parents l = rows l.found.items ≡ map (λ ps. map (λ p. p.index) ps.items) (take l.row-index l.parents)
