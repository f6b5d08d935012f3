use Rattle.std.proofs.Common.{◌∙◌, sym}
use Rattle.bibkit_core.specs.Conditions.{is_about}
use Rattle.bibkit_core.proofs.ConditionFacts.{one_fails, one_passes}
use Rattle.bibkit_core.proofs.conditions.push_about.Goals as goal

pub returns-in_ok-push : goal.returns-in_ok-push
returns-in_ok-push c = λ skipped entries covered named.
    c.in_ok-push.ensures.items
    ∙ one_passes (is_about skipped entries) c.args.kept.now.items c.args.finding
    (sym (c.is_about.ensures skipped entries covered named) ∙ c.if-is_about.true)

pub returns-else-is_about : goal.returns-else-is_about
returns-else-is_about c = λ skipped entries covered named.
    one_fails (is_about skipped entries) c.args.kept.now.items c.args.finding
    (sym (c.is_about.ensures skipped entries covered named) ∙ c.if-is_about.false)
