use Rattle.std.proofs.Common.{[], map, take, drop, refl, ◌∙◌}
use Rattle.std.proofs.lemmas.Result.{err_from_is_err_and}
use Rattle.bibkit_core.proofs.RunFacts.{has_run_more, has_run_none, names_more, names_parts, stopped_at_file}
use Rattle.bibkit_core.proofs.run.run_files.Goals as goal

pub names-init : goal.names-init
names-init g c = record { run = has_run_none c.args.files.now c.args.task.now (g.K.Sink.taken c.args.output.now); same = refl }

pub names-preserved : goal.names-preserved
names-preserved g c =
    let more = has_run_more c.names.invariant.run c.in_ok-is_read.ensures.printed in
    record {
      run =
          rw (
            c.both-are_read.ensures,
            names_more (λ name. name.now) c.args.names.now c.names.name-index
                (record { ref_ptr = (0, 0); now = [] }) c.names-test.true,
          ) more;
      same = c.in_ok-is_read.ensures.same ∙ c.names.invariant.same;
    }

pub returns-in_err-is_read-clause-stopped : goal.returns-in_err-is_read-clause-stopped
returns-in_err-is_read-clause-stopped g c =
    let p = err_from_is_err_and c.from_residual.result c.from_residual.ensures.1 in
    rw (p.1, p.2) (stopped_at_file _ (map (λ name. name.now) (take c.names.name-index c.args.names.now))
    (map (λ name. name.now) (drop c.names.name-index c.args.names.now)) c.args.output.now c.names.output
    c.run_file.new.output
    (names_parts (λ name. name.now) c.args.names.now c.names.name-index) c.names.invariant.run c.names.invariant.same
    c.in_err-is_read.ensures.stopped)
