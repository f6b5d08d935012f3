use Rattle.std.proofs.Common.{◌∙◌}
use Rattle.bibkit_commands.proofs.ArgumentFacts.{number_read}
use Rattle.bibkit_commands.proofs.argument_values.number_in.Goals as goal

pub returns : goal.returns
returns c = c.ok.ensures.value ∙ number_read c.args.text.now c.parse.result c.parse.ensures.value.0
