use Rattle.std.proofs.Common.{◌≡◌, ◌++◌, drop, map}
use Rattle.std.specs.List.{AllByRecursion, flat_map}
use Rattle.bib_queries.specs.Sets.{is_in_set}
use Rattle.bib_syntax.specs.Views.{entry_reading_of}
use Rattle.edit_entries.specs.EditList.{edit_of}
use Rattle.edit_entries.specs.FieldTexts.{HaveFieldsPlaced}
use Rattle.edit_entries.specs.Selected.{unset_if_selected}
use Rattle.edit_entries.proofs.selected.all_unset_edits.Given as goal

-- the edits so far and those of the entries still to visit make the edits of all entries
abbrev pub invariant-entries : goal.invariant-entries
invariant-entries l = record {
  added : map edit_of l.edits.items
      ++ flat_map (unset_if_selected (is_in_set l.keys) l.text l.name) (map entry_reading_of (drop l.entry-index l.entries))
      ≡ flat_map (unset_if_selected (is_in_set l.keys) l.text l.name) (map entry_reading_of l.entries);
  placed : AllByRecursion (HaveFieldsPlaced l.text) (map entry_reading_of (drop l.entry-index l.entries));
}
