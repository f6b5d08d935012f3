use Rattle.std.proofs.Common.{◌≡◌, drop, map}
use Rattle.std.specs.List.{list_any}
use Rattle.bib_syntax.specs.Views.{field_of}
use Rattle.edit_entries.specs.Setting.{has_other_value, value_of}
use Rattle.edit_entries.proofs.setting.has_field_to_set.Given as goal

abbrev pub invariant-fields : goal.invariant-fields
invariant-fields l =
    list_any (has_other_value l.name (value_of l.value)) (map field_of l.fields)
    ≡ list_any (has_other_value l.name (value_of l.value)) (map field_of (drop l.field-index l.fields))
