use Rattle.std.specs.String.{string_bytes}
use Rattle.std.proofs.lemmas.Result.{IfOk-weaker}
use Rattle.bibkit_edits.proofs.EditedFacts.{resolution_made}
use Rattle.bibkit_edits.proofs.editing.resolve_document.Goals as goal

pub returns-clause-made : goal.returns-clause-made
returns-clause-made c =
    IfOk-weaker c.resolve.result _ _ (λ new made. resolution_made c.args.document.now (string_bytes new) made)
    c.resolve.ensures.resolved
