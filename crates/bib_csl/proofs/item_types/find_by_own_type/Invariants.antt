use Rattle.std.proofs.Common.{◌≡◌, drop}
use Rattle.bib_csl.specs.TableRows.{first_type, is_of_own_type}
use Rattle.bib_csl.proofs.item_types.find_by_own_type.Given as goal

-- a search from this row on finds the same type as a search of all rows
abbrev pub invariant-loop-row : goal.invariant-loop-row
invariant-loop-row l = first_type (is_of_own_type l.name) (drop l.row-index l.rows) ≡ first_type (is_of_own_type l.name) l.rows
