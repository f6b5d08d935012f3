use Rattle.std.proofs.Common.{◌≡◌, drop}
use Rattle.edit_convert.specs.Conversions.{other_name}
use Rattle.edit_convert.specs.Tables.{lent_names}
use Rattle.edit_convert.proofs.names.other_name.Given as goal

abbrev pub invariant-rows : goal.invariant-rows
invariant-rows l = other_name (lent_names l.names) l.name ≡ other_name (lent_names (drop l.row-index l.names)) l.name
