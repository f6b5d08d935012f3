use Rattle.std.proofs.Common.{◌≡◌, drop, map}
use Rattle.bib_syntax.specs.Views.{field_of}
use Rattle.edit_convert.specs.Conversions.{is_field_there}
use Rattle.edit_convert.proofs.names.has_field.Given as goal

abbrev pub invariant-fields : goal.invariant-fields
invariant-fields l = is_field_there (map field_of l.fields) l.name ≡ is_field_there (map field_of (drop l.field-index l.fields)) l.name
