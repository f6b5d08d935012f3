use Rattle.std.proofs.lemmas.Result.{err_from_is_err_and}
use Rattle.std.specs.Prelude.{None}
use Rattle.bibkit_core.specs.Answered.{IsOnDocument}
use Rattle.bibkit_core.proofs.AnswerFacts.{compared_database_answer, database_answer}
use Rattle.bibkit_core.proofs.RunFacts.{printed_so, stopped_so}
use Rattle.bibkit_core.proofs.lint_run.run_lint_database.Goals as goal

pub returns-in_ok-status-in-None-clause-printed : goal.returns-in_ok-status-in-None-clause-printed
returns-in_ok-status-in-None-clause-printed g c =
    printed_so (λ text p. database_answer c.requires c.in-None.is text _ p) c.in_ok-status-in-None.ensures.printed

pub returns-in_ok-status-in-Some-clause-printed : goal.returns-in_ok-status-in-Some-clause-printed
returns-in_ok-status-in-Some-clause-printed g c =
    printed_so (λ text p. compared_database_answer c.in-Some.cited c.requires c.in-Some.is text _ p) c.in_ok-status-in-Some.ensures.printed

pub returns-in_err-status-in-None-clause-stopped : goal.returns-in_err-status-in-None-clause-stopped
returns-in_err-status-in-None-clause-stopped g c =
    let p = err_from_is_err_and c.from_residual.result c.from_residual.ensures.1 in
    rw (p.1, p.2)
    (stopped_so (λ text p. database_answer c.requires c.in-None.is text None p) (λ unread. absurd unread)
    c.in_err-status-in-None.ensures.stopped)

pub returns-in_err-status-in-Some-clause-stopped : goal.returns-in_err-status-in-Some-clause-stopped
returns-in_err-status-in-Some-clause-stopped g c =
    let p = err_from_is_err_and c.from_residual-in_err-status-in-Some.result c.from_residual-in_err-status-in-Some.ensures.1 in
    rw (p.1, p.2) (stopped_so (λ text p. compared_database_answer c.in-Some.cited c.requires c.in-Some.is text None p)
    (λ unread.
    record {
      name = c.in-Some.cited.name.now;
      files' = unread.0;
      document = IsOnDocument.compared c.in-Some.is;
      unread = unread.1;
    }) c.in_err-status-in-Some.ensures.stopped)
