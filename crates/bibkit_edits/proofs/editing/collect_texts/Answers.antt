use Rattle.std.specs.String.{string_bytes}
use Rattle.bibkit_edits.proofs.EditedFacts.{collection_made}
use Rattle.bibkit_edits.proofs.editing.collect_texts.Goals as goal

pub returns-clause-made : goal.returns-clause-made
returns-clause-made c = collection_made c.args.document.now _ c.args.at_least (string_bytes c.in_ok-collect.field-0) c.in_ok-collect.ensures
