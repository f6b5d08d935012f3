use Rattle.std.proofs.Common.{◌∙◌}
use Rattle.std.proofs.lemmas.Iterator.Consumers.{YieldsList-end}
use Rattle.std.proofs.lemmas.Iterator.Splits.{YieldsList-from_str_split}
use Rattle.edit_convert.proofs.dates.parts.Goals as goal

pub returns : goal.returns
returns c =
    let all =
    YieldsList-end (YieldsList-from_str_split c.args.separator c.args.text.now c.requires (cc) (cc) (cc))
    c.parts.yielded _ c.parts.yielded_by _ _ c.in-None.is c.next.ensures.steps in
    c.parts.invariant ∙ all.0
