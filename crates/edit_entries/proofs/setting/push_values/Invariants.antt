use Rattle.std.proofs.Common.{◌≡◌, ◌++◌, drop, map}
use Rattle.std.specs.List.{AllByRecursion}
use Rattle.bib_syntax.specs.Views.{field_of}
use Rattle.edit_entries.specs.Changes.{edits_of_fields}
use Rattle.edit_entries.specs.EditList.{edit_of}
use Rattle.edit_entries.specs.Placed.{IsPlaced}
use Rattle.edit_entries.specs.Setting.{set_change, value_of}
use Rattle.edit_entries.proofs.setting.push_values.Given as goal

-- the edits of the fields that are left are those that are still to be added
abbrev pub invariant-fields : goal.invariant-fields
invariant-fields l = record {
  added : map edit_of l.edits.items
      ++ edits_of_fields l.text (map field_of (drop l.field-index l.fields))
      (map (set_change l.name (value_of l.value)) (map field_of (drop l.field-index l.fields)))
      ≡ map edit_of l.initial.edits.items
      ++ edits_of_fields l.text (map field_of l.fields) (map (set_change l.name (value_of l.value)) (map field_of l.fields));
  placed : AllByRecursion (IsPlaced l.text) (map field_of (drop l.field-index l.fields));
}
