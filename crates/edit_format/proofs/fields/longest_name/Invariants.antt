use Rattle.std.proofs.Common.{◌≡◌, map, take}
use Rattle.bib_syntax.specs.Views.{field_of}
use Rattle.edit_format.specs.Formatted as styled
use Rattle.edit_format.proofs.fields.longest_name.Given as goal

abbrev pub invariant-fields : goal.invariant-fields
invariant-fields l = l.longest ≡ styled.longest_name (map field_of (take l.field-index l.fields))
