use Rattle.std.proofs.Common.{◌≡◌, take}
use Rattle.std.specs.String.{string_bytes}
use Rattle.edit_strings.specs.Views.{lent_left}
use Rattle.bibkit_edits.specs.LeftNotes.{left_lines}
use Rattle.bibkit_edits.proofs.left_notes.notes_on.Given as goal

abbrev pub invariant-left : goal.invariant-left
invariant-left l = record {
  notes : string_bytes l.notes ≡ left_lines l.name l.text (lent_left (take l.reference-index l.left));
  positions : l.positions ≡ l.text;
}
