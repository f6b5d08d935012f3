use Rattle.std.proofs.Common.{◌∙◌, ap}
use Rattle.bib_keys.specs.Commands.{name_len}
use Rattle.bib_keys.proofs.CommandFacts.{name_ends}
use Rattle.bib_keys.proofs.commands.push_without_name.Goals as goal

pub split_at-requires : goal.split_at-requires
split_at-requires c =
    name_ends c.args.command.now c.name_len.result c.utf8.command (c.name_len.ensures ∙ ap (λ l. name_len l) c.as_bytes.ensures.value)
