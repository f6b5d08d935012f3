use Rattle.bibkit_core.proofs.ConditionFacts.{suffix_before}
use Rattle.bibkit_core.proofs.conditions.before_end.Goals as goal

pub returns : goal.returns
returns c = suffix_before c.args.words.now c.args.text.now c.strip_suffix.result c.strip_suffix.ensures.cases
