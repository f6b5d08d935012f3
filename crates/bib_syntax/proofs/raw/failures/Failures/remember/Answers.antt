use Rattle.std.proofs.Common.{rules, ◌≡◌, ◌<◌, length, get_or, subst, sym}
use Rattle.bib_syntax.specs.Failures.{FailsAt}
use Rattle.bib_syntax.proofs.FailingFacts.{failure_remembered}
use Rattle.bib_syntax.proofs.raw.failures.Failures.remember.Goals as goal

pub starts-preserved : goal.starts-preserved
starts-preserved c text all before =
    let same : c.in_ok-clone.field-0 ≡ c.args.error.now = search rules in
    let below : c.starts.start-index < length c.args.starts.now = search rules in
    let start = get_or c.args.starts.now c.starts.start-index 0 in
    failure_remembered text c.starts.self.errors c.insert.new.self start c.in_ok-clone.field-0 c.in_ok-insert.ensures.updates
    (subst (λ e. FailsAt text e start) (sym same) (all c.starts.start-index 0 below))
    (c.starts.invariant text all before)
