use Rattle.std.proofs.Common.{[], subst}
use Rattle.std.specs.Prelude.{option_map}
use Rattle.std.specs.Io.KnownBytes.{Appends}
use Rattle.std.specs.String.{string_bytes}
use Rattle.biblatex.proofs.WritingFacts.{appends_nothing}
use Rattle.std.proofs.lemmas.Result.{err_from_is_err_and}
use Rattle.bibkit_core.proofs.RunFacts.{stopped_at_once}
use Rattle.bibkit_core.specs.Running.IsStep.{read, unread}
use Rattle.bibkit_core.proofs.run.run_file.Goals as goal

pub returns-in_default-clause-printed : goal.returns-in_default-clause-printed
returns-in_default-clause-printed g c = record {
  text = [];
  step =
      unread
      (subst
      (λ o. g.F.Files.reads c.args.files.now c.args.name.now (option_map (λ b. b.items) o) c.bytes_of.new.files)
      c.in_default.is c.in_ok-bytes.ensures);
  printed = appends_nothing (g.K.Sink.taken c.args.output.now);
}

pub returns-clause-printed : goal.returns-clause-printed
returns-clause-printed g c = record {
  text = string_bytes c.in_ok-text.text;
  step = read c.in-Some.bytes.items
      (subst (λ o. g.F.Files.reads c.args.files.now c.args.name.now (option_map (λ b. b.items) o) c.bytes_of.new.files)
      c.in-Some.is c.in_ok-bytes.ensures)
      (subst (λ b. g.T.Task.prints c.args.task.now c.args.name.now b (string_bytes c.in_ok-text.text) c.file.new.self)
      c.deref.ensures.value c.in_ok-text.ensures);
  printed =
      subst (λ t. Appends (g.K.Sink.taken c.args.output.now) (g.K.Sink.taken c.print.new.output) t) c.deref-2.ensures
      c.in_ok-print.ensures.printed;
}

pub returns-in_err-begin-clause-stopped : goal.returns-in_err-begin-clause-stopped
returns-in_err-begin-clause-stopped g c =
    let p = err_from_is_err_and c.from_residual.result c.from_residual.ensures.1 in
    rw (p.1, p.2) (stopped_at_once c.args.output.now)

pub returns-in_err-bytes-clause-stopped : goal.returns-in_err-bytes-clause-stopped
returns-in_err-bytes-clause-stopped g c =
    let p = err_from_is_err_and c.from_residual-in_err-bytes.result c.from_residual-in_err-bytes.ensures.1 in
    rw (p.1, p.2) (stopped_at_once c.args.output.now)

pub returns-in_err-text-clause-stopped : goal.returns-in_err-text-clause-stopped
returns-in_err-text-clause-stopped g c =
    let p = err_from_is_err_and c.from_residual-in_err-text.result c.from_residual-in_err-text.ensures.1 in
    rw (p.1, p.2) (stopped_at_once c.args.output.now)
