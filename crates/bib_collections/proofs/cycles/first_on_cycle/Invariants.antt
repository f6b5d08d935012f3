use Rattle.std.proofs.Common.{ℕ, ◌<◌}
use Rattle.bib_collections.specs.Graph.{Leads}
use Rattle.bib_collections.specs.Rows.{rows}
use Rattle.bib_collections.proofs.cycles.first_on_cycle.Given as goal

abbrev pub invariant-loop-index : goal.invariant-loop-index
invariant-loop-index l = (q : ℕ) → q < l.index → Leads (rows l.refs) q q → ⊥
