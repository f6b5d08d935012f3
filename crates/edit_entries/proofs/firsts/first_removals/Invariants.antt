use Rattle.std.proofs.Common.{◌≡◌, ◌&&◌, ℕ, List, [], ◌++◌, drop, map, take}
use Rattle.std.specs.List.{AllByRecursion, list_any}
use Rattle.bib_queries.specs.Sets.{is_in_set}
use Rattle.bib_syntax.specs.Views.{entry_reading_of}
use Rattle.edit_entries.specs.Documents.{is_keyed}
use Rattle.edit_entries.specs.EditList.{edit_of}
use Rattle.edit_entries.specs.Edits.{Edit}
use Rattle.edit_entries.specs.Placed.{IsEntryPlaced}
use Rattle.edit_entries.specs.Selected.{AreRemovals, is_first_with, passing_after}
use Rattle.edit_entries.proofs.firsts.first_removals.Given as goal

-- The edits so far, and those that remove the first entries among the entries that are left, remove all first entries. The keys of the
-- entries so far are found.
abbrev pub invariant-entries : goal.invariant-entries
invariant-entries l = record {
  made : (more : List Edit)
      → AreRemovals l.text (passing_after (is_first_with (map (λ k. k.now) l.keys)) (map entry_reading_of (take l.entry-index l.entries))
      (map entry_reading_of (drop l.entry-index l.entries))) more
      → AreRemovals l.text (passing_after (is_first_with (map (λ k. k.now) l.keys)) [] (map entry_reading_of l.entries))
      (map edit_of l.edits.items ++ more);
  found : (name : List ℕ) → is_in_set l.found name
      ≡ (is_in_set l.set name && list_any (is_keyed name) (map entry_reading_of (take l.entry-index l.entries)));
  placed : AllByRecursion (IsEntryPlaced l.text) (map entry_reading_of (drop l.entry-index l.entries));
}
