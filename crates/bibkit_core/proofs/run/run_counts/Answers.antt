use Rattle.std.proofs.lemmas.Result.{err_from_is_err_and}
use Rattle.std.specs.Prelude.{None}
use Rattle.bibkit_core.specs.Answered.{IsCallAnswer}
use Rattle.bibkit_core.proofs.CountFacts.{counts_seen}
use Rattle.bibkit_core.proofs.RunFacts.{printed_so, stopped_so}
use Rattle.bibkit_core.proofs.run.run_counts.Goals as goal

pub returns-clause-printed : goal.returns-clause-printed
returns-clause-printed g c =
    printed_so (λ text p. IsCallAnswer.counts (counts_seen c.new-task.result c.new-task.ensures text _ p))
    c.in_ok-status.ensures.printed

pub returns-in_err-status-clause-stopped : goal.returns-in_err-status-clause-stopped
returns-in_err-status-clause-stopped g c =
    let p = err_from_is_err_and c.from_residual.result c.from_residual.ensures.1 in
    rw (p.1, p.2)
    (stopped_so (λ text p. IsCallAnswer.counts (counts_seen c.new-task.result c.new-task.ensures text None p))
    (λ unread. unread) c.in_err-status.ensures.stopped)
