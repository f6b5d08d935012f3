use Rattle.std.proofs.Common.{◌++◌, ap, ◌∙◌, lit<}
use Rattle.std.specs.List.{flat_map}
use Rattle.std.proofs.lemmas.Iterator.Consumers.{YieldsList-end}
use Rattle.std.proofs.lemmas.Iterator.Splits.{YieldsList-from_str_split}
use Rattle.bibkit_core.specs.Rules.{rules_named}
use Rattle.bibkit_core.proofs.rules.push_listed.Goals as goal

pub returns : goal.returns
returns c =
    let all =
    YieldsList-end (YieldsList-from_str_split 44 c.args.list.now (lit< tt) (cc) (cc) (cc)) c.names.yielded _
    c.names.yielded_by _ _ c.in-None.is c.next.ensures.steps in
    c.names.invariant ∙ ap (λ l. c.args.rules.now.items ++ flat_map rules_named l) all.0
