use Rattle.std.proofs.Common.{◌≡◌, drop, map}
use Rattle.bib_text.specs.Enums.{value_named}
use Rattle.bib_csl.specs.Named.{named_pair_of}
use Rattle.bib_csl.proofs.commands.find_tags.Given as goal

-- a search in the rows from this one on has the same result as a search in all rows
abbrev pub invariant-rows : goal.invariant-rows
invariant-rows l =
    value_named (map named_pair_of (drop l.row_name-index l.rows)) l.name ≡ value_named (map named_pair_of l.rows) l.name
