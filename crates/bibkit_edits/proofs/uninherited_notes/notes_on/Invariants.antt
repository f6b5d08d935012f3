use Rattle.std.proofs.Common.{◌≡◌, take}
use Rattle.std.specs.String.{string_bytes}
use Rattle.edit_resolve.specs.Views.{uninherited_list}
use Rattle.bibkit_edits.specs.UninheritedNotes.{uninherited_lines}
use Rattle.bibkit_edits.proofs.uninherited_notes.notes_on.Given as goal

abbrev pub invariant-found : goal.invariant-found
invariant-found l = record {
  notes : string_bytes l.notes ≡ uninherited_lines l.name l.text (uninherited_list (take l.fields-index l.found));
  positions : l.positions ≡ l.text;
}
