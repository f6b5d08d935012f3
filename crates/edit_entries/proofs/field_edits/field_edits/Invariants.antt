use Rattle.std.proofs.Common.{◌≡◌, ◌++◌, drop, map}
use Rattle.std.specs.List.{AllByRecursion}
use Rattle.bib_syntax.specs.Views.{entry_reading_of}
use Rattle.edit_entries.specs.Changes.{edits_of_entries}
use Rattle.edit_entries.specs.EditList.{edit_of}
use Rattle.edit_entries.specs.FieldEdits.{selected_edited}
use Rattle.edit_entries.specs.FieldTexts.{HaveFieldsPlaced}
use Rattle.edit_entries.proofs.field_edits.field_edits.Given as goal

-- the edits of the entries that are left are those that are still to be added
abbrev pub invariant-entries : goal.invariant-entries
invariant-entries l = record {
  added : map edit_of l.edits.items
      ++ edits_of_entries (selected_edited l.text l.keys l.edit) l.text (map entry_reading_of (drop l.entry-index l.entries))
      ≡ edits_of_entries (selected_edited l.text l.keys l.edit) l.text (map entry_reading_of l.entries);
  placed : AllByRecursion (HaveFieldsPlaced l.text) (map entry_reading_of (drop l.entry-index l.entries));
}
