use Rattle.std.proofs.Common.{◌≡◌, drop, map}
use Rattle.std.specs.List.{AllByRecursion}
use Rattle.bib_syntax.specs.Views.{field_of}
use Rattle.edit_entries.specs.Layouts as spec
use Rattle.edit_entries.specs.Placed.{IsSignPlaced}
use Rattle.edit_entries.proofs.layout.wide_column.Given as goal

-- the fields that are left decide the column
abbrev pub invariant-fields : goal.invariant-fields
invariant-fields l = record {
  left : spec.wide_column l.text (map field_of l.fields) ≡ spec.wide_column l.text (map field_of (drop l.field-index l.fields));
  placed : AllByRecursion (IsSignPlaced l.text) (map field_of (drop l.field-index l.fields));
}
