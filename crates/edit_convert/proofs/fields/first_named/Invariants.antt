use Rattle.std.proofs.Common.{◌≡◌, drop, map}
use Rattle.std.specs.List.{find}
use Rattle.bib_syntax.specs.Views.{field_of}
use Rattle.edit_entries.specs.Documents.{has_name}
use Rattle.edit_convert.proofs.fields.first_named.Given as goal

abbrev pub invariant-fields : goal.invariant-fields
invariant-fields l = find (has_name l.name) (map field_of l.fields) ≡ find (has_name l.name) (map field_of (drop l.field-index l.fields))
