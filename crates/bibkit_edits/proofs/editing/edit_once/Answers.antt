use Rattle.std.specs.String.{string_bytes}
use Rattle.bibkit_edits.proofs.EditedFacts.{text_style_made}
use Rattle.bibkit_edits.proofs.editing.edit_once.Goals as goal

pub returns-in-Ok-clause-made : goal.returns-in-Ok-clause-made
returns-in-Ok-clause-made c =
    rw c.in-Format.is (text_style_made c.in-Format.style c.args.text.now (string_bytes c.in-Ok.new) c.in-Ok.ensures.made)
