use Rattle.std.proofs.Common.{◌∙◌, ap}
use Rattle.bib_source.specs.Positions.{position_at}
use Rattle.bibkit_commands.proofs.MessageFacts.{same_error}
use Rattle.bibkit_commands.proofs.rekeying.key_line.Goals as goal

pub returns : goal.returns
returns c =
    same_error c.error_line.result c.args.name.now _ _ _ _
    (ap (λ bytes. position_at bytes c.args.old.now.span.start) c.as_bytes.ensures.value)
    (c.deref.ensures ∙ c.in_ok-said.ensures.ok) c.error_line.ensures
