use Rattle.std.proofs.Common.{◌≡◌, drop}
use Rattle.bib_text.specs.Enums.{value_named}
use Rattle.bib_csl.specs.Named.{text_rows}
use Rattle.bib_csl.proofs.named.find_text.Given as goal

-- a search in the rows from this one on has the same result as a search in all rows
abbrev pub invariant-rows : goal.invariant-rows
invariant-rows l = value_named (text_rows (drop l.row_name-index l.rows)) l.name ≡ value_named (text_rows l.rows) l.name
