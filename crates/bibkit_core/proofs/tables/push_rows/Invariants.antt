use Rattle.std.proofs.Common.{◌≡◌, ◌++◌, take}
use Rattle.std.specs.List.{flat_map}
use Rattle.std.specs.String.{string_bytes}
use Rattle.bibkit_core.specs.Tables.{row_line, widest}
use Rattle.bibkit_core.proofs.tables.push_rows.Given as goal

abbrev pub invariant-rows : goal.invariant-rows
invariant-rows l = string_bytes l.text ≡ string_bytes l.initial.text ++ flat_map (row_line (widest l.rows)) (take l.row-index l.rows)
