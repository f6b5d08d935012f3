use Rattle.std.proofs.Common.{◌≡◌, ◌+◌, ◌≤◌, drop, length, map}
use Rattle.std.specs.Prelude.{filter}
use Rattle.bib_syntax.specs.Views.{field_of}
use Rattle.edit_entries.specs.Documents.{has_name}
use Rattle.edit_convert.proofs.fields.count_named.Given as goal

abbrev pub invariant-fields : goal.invariant-fields
invariant-fields l = record {
  counted : l.count + length (filter (has_name l.name) (map field_of (drop l.field-index l.fields)))
      ≡ length (filter (has_name l.name) (map field_of l.fields));
  small : l.count ≤ l.field-index;
}
