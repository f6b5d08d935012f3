use Rattle.std.proofs.Common.{◌≡◌, ◌++◌, ◌+◌, drop, map}
use Rattle.std.specs.List.{AllByRecursion}
use Rattle.bib_syntax.specs.Views.{field_of}
use Rattle.edit_entries.specs.Changes.{edits_of_fields}
use Rattle.edit_entries.specs.EditList.{edit_of}
use Rattle.edit_entry_merge.specs.Mixed.{mixed_field_changes}
use Rattle.edit_entry_merge.specs.Working.{AreEditable, IsPickPlaced, added_fields, count_to_last, pick_of}
use Rattle.edit_entry_merge.proofs.edits.entry_edits.Given as goal

-- the edits so far, followed by those of the remaining fields, are the result
abbrev pub invariant-fields : goal.invariant-fields
invariant-fields l = record {
  added : map edit_of l.edits.items
      ++ edits_of_fields l.texts.main.now (map field_of (drop l.index l.texts.fields.now))
      (mixed_field_changes l.texts.main.now l.texts.other.now (map field_of l.texts.fields.now) (added_fields l.added)
      (map pick_of (drop l.index l.picks)) (map field_of (drop l.index l.texts.fields.now)))
      ≡ edits_of_fields l.texts.main.now (map field_of l.texts.fields.now)
      (mixed_field_changes l.texts.main.now l.texts.other.now (map field_of l.texts.fields.now) (added_fields l.added)
      (map pick_of l.picks) (map field_of l.texts.fields.now));
  left : l.index + count_to_last (map pick_of (drop l.index l.picks)) ≡ l.last + 1;
  fields : AreEditable l.texts.main.now (map field_of (drop l.index l.texts.fields.now));
  picks : AllByRecursion (IsPickPlaced l.texts.other.now) (map pick_of (drop l.index l.picks));
}
