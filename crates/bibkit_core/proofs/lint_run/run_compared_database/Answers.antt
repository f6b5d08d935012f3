use Rattle.std.proofs.lemmas.Result.{err_from_is_err_and}
use Rattle.bibkit_core.proofs.AnswerFacts.{document_for, stopped_without_text}
use Rattle.bibkit_core.proofs.RunFacts.{printed_so, stopped_at_once, stopped_so}
use Rattle.bibkit_core.proofs.lint_run.run_compared_database.Goals as goal

pub returns-in_err-text-clause-stopped : goal.returns-in_err-text-clause-stopped
returns-in_err-text-clause-stopped g c =
    let p = err_from_is_err_and c.from_residual.result c.from_residual.ensures.1 in
    rw (p.1, p.2)
    (stopped_without_text g.F.Files.reads c.args.files.now c.document_text.new.files c.args.cited.name.now
    c.args.output.now _ (λ unread. (c.document_text.new.files, unread)) c.in_err-text.ensures.unread)

pub returns-in_err-compared-clause-stopped : goal.returns-in_err-compared-clause-stopped
returns-in_err-compared-clause-stopped g c =
    let p = err_from_is_err_and c.from_residual-in_err-compared.result c.from_residual-in_err-compared.ensures.1 in
    rw (p.1, p.2) (stopped_at_once c.args.output.now)

pub returns-clause-printed : goal.returns-clause-printed
returns-clause-printed g c =
    printed_so (λ text p. record {
      document = c.in_ok-compared.compared;
      files' = c.document_text.new.files;
      read = document_for c.args.cited c.as_str.result.now c.as_str.ensures.value c.in_ok-text.ensures.read c.in_ok-compared.ensures;
      printed = p;
    }) c.in_ok-status.ensures.printed

pub returns-in_err-status-clause-stopped : goal.returns-in_err-status-clause-stopped
returns-in_err-status-clause-stopped g c =
    let p = err_from_is_err_and c.from_residual-in_err-status.result c.from_residual-in_err-status.ensures.1 in
    rw (p.1, p.2) (stopped_so (λ text p. record {
      document = c.in_ok-compared.compared;
      files' = c.document_text.new.files;
      read = document_for c.args.cited c.as_str.result.now c.as_str.ensures.value c.in_ok-text.ensures.read c.in_ok-compared.ensures;
      printed = p;
    }) (λ unread. absurd unread) c.in_err-status.ensures.stopped)
