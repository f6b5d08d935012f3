use Rattle.std.proofs.Common.{◌++◌, map, sym, ap, ◌∙◌, arith}
use Rattle.std.proofs.lemmas.Str.{IsCharBoundary-start}
use Rattle.edit_entries.specs.EditList.{edit_of}
use Rattle.edit_entries.proofs.StretchFacts.{edited_is, rest_edited}
use Rattle.edit_entries.proofs.editing.edited_all.Goals as goal

pub edits-init : goal.edits-init
edits-init c =
    let edits = map edit_of c.args.edits.now in (
      IsCharBoundary-start c.args.text.now c.utf8.text,
      c.requires,
      ap (λ xs. xs ++ rest_edited 0 edits c.args.text.now) c.new-new.ensures.bytes
          ∙ sym (edited_is edits c.args.text.now 0 (omega arith) c.requires),
    )
