use Rattle.std.specs.Prelude.{None}
use Rattle.std.proofs.lemmas.Result.{err_from_is_err_and}
use Rattle.bibkit_core.proofs.AnswerFacts.{entries_answer, meaning_answer, selected_answer}
use Rattle.bibkit_core.proofs.RunFacts.{printed_so, stopped_so}
use Rattle.bibkit_core.proofs.run.answer.Goals as goal

pub returns-in_ok-status-in-Lint-clause-printed : goal.returns-in_ok-status-in-Lint-clause-printed
returns-in_ok-status-in-Lint-clause-printed g c = rw c.in-Lint.is (c.in_ok-status-in-Lint.ensures.printed)

pub returns-in_err-status-in-Lint-clause-stopped : goal.returns-in_err-status-in-Lint-clause-stopped
returns-in_err-status-in-Lint-clause-stopped g c =
    let p = err_from_is_err_and c.from_residual.result c.from_residual.ensures.1 in
    rw (p.1, p.2, c.in-Lint.is) (c.in_err-status-in-Lint.ensures.stopped)

pub returns-in_ok-status-in-Explain-clause-printed : goal.returns-in_ok-status-in-Explain-clause-printed
returns-in_ok-status-in-Explain-clause-printed g c =
    rw c.in-Explain.is (printed_so (λ text p. meaning_answer text _ p) c.in_ok-status-in-Explain.ensures.printed)

pub returns-in_err-status-in-Explain-clause-stopped : goal.returns-in_err-status-in-Explain-clause-stopped
returns-in_err-status-in-Explain-clause-stopped g c =
    let p = err_from_is_err_and c.from_residual-in_err-status-in-Explain.result c.from_residual-in_err-status-in-Explain.ensures.1 in
    rw (p.1, p.2, c.in-Explain.is)
    (stopped_so (λ text p. meaning_answer text None p) (λ unread. absurd unread)
    c.in_err-status-in-Explain.ensures.stopped)

pub returns-in_ok-status-in-Entries-clause-printed : goal.returns-in_ok-status-in-Entries-clause-printed
returns-in_ok-status-in-Entries-clause-printed g c =
    rw c.in-Entries.is (printed_so (λ text p. entries_answer text _ p) c.in_ok-status-in-Entries.ensures.printed)

pub returns-in_err-status-in-Entries-clause-stopped : goal.returns-in_err-status-in-Entries-clause-stopped
returns-in_err-status-in-Entries-clause-stopped g c =
    let p = err_from_is_err_and c.from_residual-in_err-status-in-Entries.result c.from_residual-in_err-status-in-Entries.ensures.1 in
    rw (p.1, p.2, c.in-Entries.is)
    (stopped_so (λ text p. entries_answer text None p) (λ unread. absurd unread)
    c.in_err-status-in-Entries.ensures.stopped)

pub returns-in_ok-status-in-Selected-clause-printed : goal.returns-in_ok-status-in-Selected-clause-printed
returns-in_ok-status-in-Selected-clause-printed g c =
    rw c.in-Selected.is (printed_so (λ text p. selected_answer text _ p) c.in_ok-status-in-Selected.ensures.printed)

pub returns-in_err-status-in-Selected-clause-stopped : goal.returns-in_err-status-in-Selected-clause-stopped
returns-in_err-status-in-Selected-clause-stopped g c =
    let p = err_from_is_err_and c.from_residual-in_err-status-in-Selected.result c.from_residual-in_err-status-in-Selected.ensures.1 in
    rw (p.1, p.2, c.in-Selected.is)
    (stopped_so (λ text p. selected_answer text None p) (λ unread. absurd unread)
    c.in_err-status-in-Selected.ensures.stopped)

pub returns-in_ok-status-in-Cited-clause-printed : goal.returns-in_ok-status-in-Cited-clause-printed
returns-in_ok-status-in-Cited-clause-printed g c = rw c.in-Cited.is (c.in_ok-status-in-Cited.ensures.printed)

pub returns-in_err-status-in-Cited-clause-stopped : goal.returns-in_err-status-in-Cited-clause-stopped
returns-in_err-status-in-Cited-clause-stopped g c =
    let p = err_from_is_err_and c.from_residual-in_err-status-in-Cited.result c.from_residual-in_err-status-in-Cited.ensures.1 in
    rw (p.1, p.2, c.in-Cited.is) (c.in_err-status-in-Cited.ensures.stopped)

pub returns-in_ok-status-in-Stats-clause-printed : goal.returns-in_ok-status-in-Stats-clause-printed
returns-in_ok-status-in-Stats-clause-printed g c = rw c.in-Stats.is (c.in_ok-status-in-Stats.ensures.printed)

pub returns-in_err-status-in-Stats-clause-stopped : goal.returns-in_err-status-in-Stats-clause-stopped
returns-in_err-status-in-Stats-clause-stopped g c =
    let p = err_from_is_err_and c.from_residual-in_err-status-in-Stats.result c.from_residual-in_err-status-in-Stats.ensures.1 in
    rw (p.1, p.2, c.in-Stats.is) (stopped_so (λ text p. p) (λ unread. absurd unread) c.in_err-status-in-Stats.ensures.stopped)
