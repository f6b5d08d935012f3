use Rattle.std.proofs.Common.{◌≡◌, map, take}
use Rattle.bibkit_core.specs.Steps.{HasRun}
use Rattle.bibkit_core.proofs.run.run_files.Given as goal

abbrev pub invariant-names : goal.invariant-names
invariant-names g l = record {
  run : HasRun g.F.Files.reads g.T.Task.prints l.initial.files l.initial.task (g.K.Sink.taken l.initial.output)
      (map (λ name. name.now) (take l.name-index l.names)) l.are_read l.files l.task (g.K.Sink.taken l.output);
  same : g.K.Sink.refusals l.output ≡ g.K.Sink.refusals l.initial.output;
}
