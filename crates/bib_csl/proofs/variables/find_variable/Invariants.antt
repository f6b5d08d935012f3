use Rattle.std.proofs.Common.{◌≡◌, drop}
use Rattle.bib_csl.specs.TableRows.{first_variable}
use Rattle.bib_csl.proofs.variables.find_variable.Given as goal

-- a search from this row on finds the same variable as a search of all rows
abbrev pub invariant-loop-row : goal.invariant-loop-row
invariant-loop-row l = first_variable l.name (drop l.row-index l.rows) ≡ first_variable l.name l.rows
