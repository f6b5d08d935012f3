use Rattle.std.proofs.Common.{◌≡◌, ◌++◌, drop, map}
use Rattle.std.specs.List.{AllByRecursion}
use Rattle.std.specs.String.{string_bytes}
use Rattle.bib_syntax.specs.Views.{field_of}
use Rattle.edit_entries.specs.Changes.{field_text_by, more_field_texts}
use Rattle.edit_entries.specs.Placed.{IsPlaced}
use Rattle.edit_entry_merge.specs.Mixed.{copied_field, field_written, sign_for}
use Rattle.edit_entry_merge.specs.Working.{added_fields, pick_of}
use Rattle.edit_entry_merge.proofs.closing.closing_text.Given as goal

-- the text so far, followed by the remaining fields, is the result
abbrev pub invariant-added : goal.invariant-added
invariant-added l = record {
  text : string_bytes l.new
      ++ more_field_texts (sign_for l.texts.main.now (field_of l.field) (map field_of l.texts.fields.now)) l.white
      (map (copied_field l.texts.other.now) (added_fields (drop l.addition-index l.added)))
      ≡ field_text_by (sign_for l.texts.main.now (field_of l.field) (map field_of l.texts.fields.now))
      (field_written l.texts.main.now l.texts.other.now (field_of l.field) (pick_of l.pick))
      ++ more_field_texts (sign_for l.texts.main.now (field_of l.field) (map field_of l.texts.fields.now)) l.white
      (map (copied_field l.texts.other.now) (added_fields l.added));
  placed : AllByRecursion (IsPlaced l.texts.other.now) (added_fields (drop l.addition-index l.added));
}
