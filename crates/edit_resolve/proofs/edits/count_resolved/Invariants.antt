use Rattle.std.proofs.Common.{◌≡◌, ◌≤◌, map, take}
use Rattle.std.specs.Prelude.{count_by}
use Rattle.bib_syntax.specs.Views.{field_of}
use Rattle.edit_resolve.specs.Parents.{is_resolved}
use Rattle.edit_resolve.specs.Working.{readings}
use Rattle.edit_resolve.proofs.edits.count_resolved.Given as goal

abbrev pub invariant-fields : goal.invariant-fields
invariant-fields l = record {
  counted : l.count ≡ count_by (is_resolved (readings l.file)) (map field_of (take l.field-index l.fields));
  within : l.count ≤ l.field-index;
}
