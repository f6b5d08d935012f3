use Rattle.std.proofs.lemmas.Result.{IfErr-weaker, IfOk-weaker}
use Rattle.bibkit_core.proofs.RunFacts.{printed_so, stopped_so}
use Rattle.bibkit_core.proofs.lint_run.run_database.Goals as goal

pub returns-clause-printed : goal.returns-clause-printed
returns-clause-printed g c = IfOk-weaker c.run_task.result _ _
    (λ status. printed_so (λ text p. record { task = c.new-task.result; begins = c.new-task.ensures; printed = p }))
    c.run_task.ensures.printed

pub returns-clause-stopped : goal.returns-clause-stopped
returns-clause-stopped g c = IfErr-weaker c.run_task.result _ _
    (λ stop. stopped_so (λ text p. record { task = c.new-task.result; begins = c.new-task.ensures; printed = p }) (λ unread. unread))
    c.run_task.ensures.stopped
