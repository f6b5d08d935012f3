use Rattle.std.proofs.Common.{◌≡◌, ◌++◌, drop, map}
use Rattle.bib_syntax.specs.Views.{entry_reading_of}
use Rattle.edit_strings.specs.Collecting.{collection_by, string_texts}
use Rattle.edit_strings.specs.Views.{lent_texts}
use Rattle.edit_strings.specs.Tables.{entry_edits, AreAllFieldsCut, index_in}
use Rattle.edit_entries.specs.EditList.{edit_of}
use Rattle.edit_strings.proofs.collecting.edits.Given as goal

abbrev pub invariant-entries : goal.invariant-entries
invariant-entries l = record {
  added : map edit_of l.edits.items
      ++ entry_edits
      (collection_by (lent_texts l.fields) (index_in l.collection.indices)
      (string_texts l.collection.names.items)) l.text
      (map entry_reading_of (drop l.entry-index l.entries))
      ≡ map edit_of l.initial.edits.items
      ++ entry_edits
      (collection_by (lent_texts l.fields) (index_in l.collection.indices)
      (string_texts l.collection.names.items)) l.text (map entry_reading_of l.entries);
  cut : AreAllFieldsCut l.text (map entry_reading_of (drop l.entry-index l.entries));
}
