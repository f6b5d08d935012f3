use Rattle.std.proofs.Common.{◌≡◌, map, drop}
use Rattle.bib_text.specs.Enums.{value_named}
use Rattle.bib_contents.proofs.commands.find_text.Given as goal

-- a search in the rows from this one on has the same result as a search in all rows
abbrev pub invariant-rows : goal.invariant-rows
invariant-rows l =
    value_named (map (λ row. (row.0.now, row.1.now)) (drop l.row_name-index l.table)) l.name
    ≡ value_named (map (λ row. (row.0.now, row.1.now)) l.table) l.name
