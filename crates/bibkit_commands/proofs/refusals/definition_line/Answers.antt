use Rattle.std.proofs.Common.{◌∙◌, refl}
use Rattle.bibkit_commands.proofs.MessageFacts.{same_error}
use Rattle.bibkit_commands.proofs.refusals.definition_line.Goals as goal

pub returns : goal.returns
returns c =
    same_error c.error_line.result c.args.name.now _ _ _ _ refl (c.deref.ensures ∙ c.in_ok-said.ensures.ok) c.error_line.ensures
