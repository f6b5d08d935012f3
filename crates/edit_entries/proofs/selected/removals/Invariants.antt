use Rattle.std.proofs.Common.{List, ◌++◌, drop, map}
use Rattle.std.specs.Prelude.{filter}
use Rattle.std.specs.List.{AllByRecursion}
use Rattle.bib_queries.specs.Sets.{is_in_set}
use Rattle.bib_syntax.specs.Views.{entry_reading_of}
use Rattle.edit_entries.specs.EditList.{edit_of}
use Rattle.edit_entries.specs.Edits.{Edit}
use Rattle.edit_entries.specs.Placed.{IsEntryPlaced}
use Rattle.edit_entries.specs.Selected.{AreRemovals, has_selected_key}
use Rattle.edit_entries.proofs.selected.removals.Given as goal

-- with the edits that remove the entries that are left, the edits are those that remove all of them
abbrev pub invariant-entries : goal.invariant-entries
invariant-entries l = record {
  made : (more : List Edit)
      → AreRemovals l.text (filter (has_selected_key (is_in_set l.keys)) (map entry_reading_of (drop l.entry-index l.entries))) more
      → AreRemovals l.text (filter (has_selected_key (is_in_set l.keys)) (map entry_reading_of l.entries))
      (map edit_of l.edits.items ++ more);
  placed : AllByRecursion (IsEntryPlaced l.text) (map entry_reading_of (drop l.entry-index l.entries));
}
