use Rattle.std.proofs.Common.{◌≡◌, ◌++◌, drop, map}
use Rattle.bib_syntax.specs.Views.{field_of}
use Rattle.edit_convert.specs.Conversions.{free_names}
use Rattle.edit_convert.specs.Tables.{lent_names}
use Rattle.edit_convert.proofs.names.replaced_names.Given as goal

abbrev pub invariant-rows : goal.invariant-rows
invariant-rows l =
    lent_names l.free.items ++ free_names (map field_of l.fields) (lent_names (drop l.row-index l.names))
    ≡ free_names (map field_of l.fields) (lent_names l.names)
