use Rattle.std.proofs.Common.{◌≡◌, drop, map}
use Rattle.std.specs.List.{list_any}
use Rattle.bib_syntax.specs.Views.{field_of}
use Rattle.edit_convert.specs.Conversions.{is_date_part}
use Rattle.edit_convert.proofs.fields.has_part.Given as goal

abbrev pub invariant-fields : goal.invariant-fields
invariant-fields l = list_any is_date_part (map field_of l.fields) ≡ list_any is_date_part (map field_of (drop l.field-index l.fields))
