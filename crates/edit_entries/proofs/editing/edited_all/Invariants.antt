use Rattle.std.proofs.Common.{◌≡◌, ◌++◌, drop, map}
use Rattle.std.specs.Str.{IsCharBoundary}
use Rattle.std.specs.String.{string_bytes}
use Rattle.edit_entries.specs.Edits.{edited_all}
use Rattle.edit_entries.specs.EditList.{AreEditsInOrder, edit_of}
use Rattle.edit_entries.proofs.StretchFacts.{rest_edited}
use Rattle.edit_entries.proofs.editing.edited_all.Given as goal

abbrev pub invariant-edits : goal.invariant-edits
invariant-edits l =
    IsCharBoundary l.text l.at × AreEditsInOrder l.text l.at (map edit_of (drop l.edit-index l.edits))
    × (string_bytes l.new ++ rest_edited l.at (map edit_of (drop l.edit-index l.edits)) l.text ≡ edited_all (map edit_of l.edits) l.text)
