use Rattle.bibkit_edits.proofs.EditedFacts.{style_made}
use Rattle.bibkit_edits.proofs.editing.format_document.Goals as goal

pub returns-clause-made : goal.returns-clause-made
returns-clause-made c = style_made c.args.style.now c.args.document.now _ c.in_ok-format.ensures.text c.in_ok-format.ensures.read
