use Rattle.std.proofs.Common.{subst, ◌∙◌}
use Rattle.std.specs.Io.KnownBytes.{Appends}
use Rattle.std.specs.String.{string_bytes}
use Rattle.std.proofs.lemmas.Result.{err_from_is_err_and}
use Rattle.bibkit_core.specs.Steps.{HasStopped}
use Rattle.bibkit_core.proofs.RunFacts.{has_printed, stopped_first, stopped_among, stopped_last}
use Rattle.bibkit_core.proofs.run.run_task.Goals as goal

pub returns-clause-printed : goal.returns-clause-printed
returns-clause-printed g c =
    let first =
    subst (λ t. Appends (g.K.Sink.taken c.args.output.now) (g.K.Sink.taken c.print.new.output) t) c.begin.ensures
    c.in_ok-print.ensures.printed in
    let last =
    subst (λ t. Appends (g.K.Sink.taken c.run_files.new.output) (g.K.Sink.taken c.print-2.new.output) t)
    c.deref.ensures c.in_ok-print-2.ensures.printed in
    rw c.status_of.ensures
    (has_printed c.args.output.now c.print.new.output c.run_files.new.output c.print-2.new.output
    (string_bytes c.in_ok-end.end.text) c.in_ok-end.end.status first c.in_ok-are_read.ensures.printed
    c.in_ok-end.ensures last)

pub returns-in_err-print-clause-stopped : goal.returns-in_err-print-clause-stopped
returns-in_err-print-clause-stopped g c =
    let p = err_from_is_err_and c.from_residual.result c.from_residual.ensures.1 in
    rw (p.1, p.2) (stopped_first c.in_err-print.ensures.stopped)

pub returns-in_err-are_read-clause-stopped : goal.returns-in_err-are_read-clause-stopped
returns-in_err-are_read-clause-stopped g c =
    let p = err_from_is_err_and c.from_residual-in_err-are_read.result c.from_residual-in_err-are_read.ensures.1 in
    let first =
    subst (λ t. Appends (g.K.Sink.taken c.args.output.now) (g.K.Sink.taken c.print.new.output) t) c.begin.ensures
    c.in_ok-print.ensures.printed in
    rw (p.1, p.2)
    (stopped_among c.args.output.now c.print.new.output c.run_files.new.output first c.in_ok-print.ensures.same
    c.in_err-are_read.ensures.stopped)

pub returns-in_err-end-clause-stopped : goal.returns-in_err-end-clause-stopped
returns-in_err-end-clause-stopped g c =
    let p = err_from_is_err_and c.from_residual-in_err-end.result c.from_residual-in_err-end.ensures.1 in
    rw (p.1, p.2) (HasStopped.no_memory (c.in_ok-are_read.ensures.same ∙ c.in_ok-print.ensures.same))

pub returns-in_err-print-2-clause-stopped : goal.returns-in_err-print-2-clause-stopped
returns-in_err-print-2-clause-stopped g c =
    let p = err_from_is_err_and c.from_residual-in_err-print-2.result c.from_residual-in_err-print-2.ensures.1 in
    let first =
    subst (λ t. Appends (g.K.Sink.taken c.args.output.now) (g.K.Sink.taken c.print.new.output) t) c.begin.ensures
    c.in_ok-print.ensures.printed in
    rw (p.1, p.2)
    (stopped_last c.args.output.now c.print.new.output c.run_files.new.output c.print-2.new.output first
    c.in_ok-print.ensures.same c.in_ok-are_read.ensures.printed c.in_ok-are_read.ensures.same
    c.in_err-print-2.ensures.stopped)
