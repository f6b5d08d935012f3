use Rattle.std.proofs.Common.{◌≡◌, drop}
use Rattle.bib_findings.specs.DemandRows.{demands_in}
use Rattle.bib_findings.proofs.demands.demands_in.Given as goal

-- a search from this row on finds the same requirements as a search of all rows
abbrev pub invariant-rows : goal.invariant-rows
invariant-rows l = demands_in (drop l.row-index l.rows) l.entry_type ≡ demands_in l.rows l.entry_type
