use Rattle.std.proofs.Common.{◌≡◌, IfOk, subst}
use Rattle.std.specs.String.{string_bytes}
use Rattle.edit_strings.specs.Views.{left_of}
use Rattle.bibkit_edits.specs.LeftNotes.{left_note}
use Rattle.bibkit_edits.proofs.left_notes.left_note.Goals as goal

pub returns : goal.returns
returns c =
    subst
    (λ n.
    IfOk c.format.result
    (λ note. string_bytes note ≡ left_note c.args.name.now c.args.place (record (left_of c.args.left.now) { name = n })))
    c.as_str.ensures c.format.ensures.ok
