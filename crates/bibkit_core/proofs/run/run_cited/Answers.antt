use Rattle.std.proofs.lemmas.Result.{err_from_is_err_and}
use Rattle.std.proofs.Common.{refl}
use Rattle.std.specs.Prelude.{None}
use Rattle.bibkit_core.specs.Answered.{IsOnDocument}
use Rattle.bibkit_core.proofs.AnswerFacts.{cited_answer, document_read, stopped_without_text}
use Rattle.bibkit_core.proofs.RunFacts.{printed_so, stopped_at_once, stopped_so}
use Rattle.bibkit_core.proofs.run.run_cited.Goals as goal

pub returns-in_err-text-clause-stopped : goal.returns-in_err-text-clause-stopped
returns-in_err-text-clause-stopped g c =
    let p = err_from_is_err_and c.from_residual.result c.from_residual.ensures.1 in
    rw (p.1, p.2) (stopped_without_text g.F.Files.reads c.args.files.now c.document_text.new.files c.args.document.now c.args.output.now _
    (λ unread.
    record {
      name = c.args.document.now;
      files' = c.document_text.new.files;
      document = IsOnDocument.cited;
      unread = unread;
    }) c.in_err-text.ensures.unread)

pub returns-in_err-citations-clause-stopped : goal.returns-in_err-citations-clause-stopped
returns-in_err-citations-clause-stopped g c =
    let p = err_from_is_err_and c.from_residual-in_err-citations.result c.from_residual-in_err-citations.ensures.1 in
    rw (p.1, p.2) (stopped_at_once c.args.output.now)

pub returns-in_err-keys-clause-stopped : goal.returns-in_err-keys-clause-stopped
returns-in_err-keys-clause-stopped g c =
    let p = err_from_is_err_and c.from_residual-in_err-keys.result c.from_residual-in_err-keys.ensures.1 in
    rw (p.1, p.2) (stopped_at_once c.args.output.now)

pub returns-clause-printed : goal.returns-clause-printed
returns-clause-printed g c =
    let found = c.in_ok-citations.citations in
    let read = document_read c.as_str.result.now c.as_str.ensures.value c.in_ok-text.ensures.read c.in_ok-citations.ensures in
    printed_so
    (λ text p.
    cited_answer c.args.document found c.as_str.result.now
    (record { keys = c.in_ok-keys.field-0; all = found.all }) read
    (record { keys = c.in_ok-keys.ensures; all = refl }) text _ p) c.in_ok-status.ensures.printed

pub returns-in_err-status-clause-stopped : goal.returns-in_err-status-clause-stopped
returns-in_err-status-clause-stopped g c =
    let p = err_from_is_err_and c.from_residual-in_err-status.result c.from_residual-in_err-status.ensures.1 in
    let found = c.in_ok-citations.citations in
    let read = document_read c.as_str.result.now c.as_str.ensures.value c.in_ok-text.ensures.read c.in_ok-citations.ensures in
    rw (p.1, p.2) (stopped_so
    (λ text p.
    cited_answer c.args.document found c.as_str.result.now
    (record { keys = c.in_ok-keys.field-0; all = found.all }) read
    (record { keys = c.in_ok-keys.ensures; all = refl }) text None p)
    (λ unread. absurd unread) c.in_err-status.ensures.stopped)
