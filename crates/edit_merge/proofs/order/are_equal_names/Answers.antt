use Rattle.std.proofs.Common.{◌∙◌}
use Rattle.edit_merge.proofs.OrderFacts.{names_equal}
use Rattle.edit_merge.proofs.order.are_equal_names.Goals as goal

pub returns : goal.returns
returns c = c.eq.ensures ∙ names_equal c.args.first.now c.args.second.now
