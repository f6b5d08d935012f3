use Rattle.std.proofs.Common.{◌≡◌, take}
use Rattle.bibkit_core.specs.Tables.{widest}
use Rattle.bibkit_core.proofs.tables.width.Given as goal

abbrev pub invariant-rows : goal.invariant-rows
invariant-rows l = l.width ≡ widest (take l.row-index l.rows)
