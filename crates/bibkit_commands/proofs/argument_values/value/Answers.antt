use Rattle.std.proofs.Common.{◌∙◌}
use Rattle.clap.specs.Matches.{found_of}
use Rattle.clap.proofs.WalkLemmas.{first_value-rows}
use Rattle.bibkit_commands.specs.Arguments.{argument_value}
use Rattle.bibkit_commands.proofs.argument_values.value.Goals as goal

pub returns : goal.returns
unfolding argument_value
returns c = c.get_str.ensures ∙ first_value-rows (found_of c.args.matches.now) c.args.id.now
