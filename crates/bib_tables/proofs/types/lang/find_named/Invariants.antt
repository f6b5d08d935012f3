use Rattle.std.proofs.Common.{◌≡◌, drop}
use Rattle.bib_tables.specs.LanguageRows.{row_named}
use Rattle.bib_tables.proofs.types.lang.find_named.Given as goal

-- a search from this row on finds the same language as a search of all rows
abbrev pub invariant-loop-row : goal.invariant-loop-row
invariant-loop-row l = row_named (drop l.row-index l.rows) l.text ≡ row_named l.rows l.text
