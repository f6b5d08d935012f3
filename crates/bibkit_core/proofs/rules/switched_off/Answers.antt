use Rattle.std.proofs.Common.{ap, ◌∙◌}
use Rattle.std.specs.List.{flat_map}
use Rattle.std.proofs.lemmas.Iterator.Consumers.{YieldsList-end}
use Rattle.std.proofs.lemmas.Iterator.Splits.{YieldsList-from_lines}
use Rattle.bibkit_core.specs.Rules.{rules_of_line}
use Rattle.bibkit_core.proofs.rules.switched_off.Goals as goal

pub returns : goal.returns
returns c =
    let all =
    YieldsList-end (YieldsList-from_lines c.args.text.now (cc)) c.lines.yielded _
    c.lines.yielded_by _ _ c.in-None.is c.next.ensures.steps in
    c.lines.invariant ∙ ap (flat_map rules_of_line) all.0
