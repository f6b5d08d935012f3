use Rattle.std.specs.Prelude.{codes}
use Rattle.bibkit_core.proofs.ConditionFacts.{suffix_before}
use Rattle.bibkit_commands.proofs.edit_arguments.before_colon.Goals as goal

pub returns : goal.returns
returns c = suffix_before (codes ":") c.args.name.now c.strip_suffix.result c.strip_suffix.ensures.cases
