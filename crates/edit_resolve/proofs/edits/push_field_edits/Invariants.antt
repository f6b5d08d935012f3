use Rattle.std.proofs.Common.{◌≡◌, ◌++◌, map, drop}
use Rattle.std.specs.Prelude.{count_by}
use Rattle.std.specs.List.{AllByRecursion}
use Rattle.bib_syntax.specs.Views.{field_of}
use Rattle.edit_entries.specs.Changes.{edits_of_fields}
use Rattle.edit_entries.specs.EditList.{edit_of}
use Rattle.edit_resolve.specs.Parents.{is_resolved}
use Rattle.edit_resolve.specs.Resolved.{field_resolutions}
use Rattle.edit_resolve.specs.Working.{IsNamedCut, instead_at, named_of, readings}
use Rattle.edit_resolve.proofs.edits.push_field_edits.Given as goal

abbrev pub invariant-fields : goal.invariant-fields
invariant-fields l = record {
  added : map edit_of l.edits.items
      ++ edits_of_fields l.text (map field_of (drop l.at l.fields))
      (field_resolutions l.text (is_resolved (readings l.file)) (instead_at l.given) (map named_of l.new)
      (map field_of (drop l.at l.fields)))
      ≡ map edit_of l.initial.edits.items
      ++ edits_of_fields l.text (map field_of l.fields)
      (field_resolutions l.text (is_resolved (readings l.file)) (instead_at l.given) (map named_of l.new) (map field_of l.fields));
  left : l.left ≡ count_by (is_resolved (readings l.file)) (map field_of (drop l.at l.fields));
  placed : AllByRecursion (IsNamedCut l.text) (map field_of (drop l.at l.fields));
}
