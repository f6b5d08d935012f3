use Rattle.std.proofs.Common.{◌≡◌, drop, map}
use Rattle.std.specs.List.{list_any}
use Rattle.bib_syntax.specs.Views.{field_of}
use Rattle.edit_entries.specs.Documents.{has_name}
use Rattle.edit_entries.proofs.setting.has_field.Given as goal

abbrev pub invariant-fields : goal.invariant-fields
invariant-fields l =
    list_any (has_name l.name) (map field_of l.fields) ≡ list_any (has_name l.name) (map field_of (drop l.field-index l.fields))
