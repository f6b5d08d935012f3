use Rattle.std.specs.String.{string_bytes}
use Rattle.bibkit_edits.proofs.EditedFacts.{conversion_made}
use Rattle.bibkit_edits.proofs.editing.convert_document.Goals as goal

pub returns-clause-made : goal.returns-clause-made
returns-clause-made c = conversion_made c.args.dialect c.args.document.now (string_bytes c.in_ok-convert.field-0) c.in_ok-convert.ensures
