use Rattle.std.proofs.Common.{◌≡◌, ◌++◌, drop, map}
use Rattle.std.specs.List.{AllByRecursion}
use Rattle.bib_syntax.specs.Views.{field_of}
use Rattle.edit_strings.specs.Collecting.{collection_by, string_texts}
use Rattle.edit_strings.specs.Views.{lent_texts}
use Rattle.edit_strings.specs.Tables.{field_edits, IsFieldCut, index_in}
use Rattle.edit_entries.specs.EditList.{edit_of}
use Rattle.edit_strings.proofs.collecting.push_edits.Given as goal

abbrev pub invariant-fields : goal.invariant-fields
invariant-fields l = record {
  added : map edit_of l.edits.items
      ++ field_edits
      (collection_by (lent_texts l.fields) (index_in l.collection.indices)
      (string_texts l.collection.names.items)) l.text (map field_of (drop l.field-index l.among))
      ≡ map edit_of l.initial.edits.items
      ++ field_edits
      (collection_by (lent_texts l.fields) (index_in l.collection.indices)
      (string_texts l.collection.names.items)) l.text (map field_of l.among);
  cut : AllByRecursion (IsFieldCut l.text) (map field_of (drop l.field-index l.among));
}
