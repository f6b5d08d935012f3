use Rattle.std.proofs.Common.{[], refl}
use Rattle.biblatex.proofs.WritingFacts.{appends_nothing}
use Rattle.bibkit_core.specs.Steps.{HasStopped}
use Rattle.bibkit_core.proofs.run.print.Goals as goal

pub returns-else-write_str-clause-stopped : goal.returns-else-write_str-clause-stopped
returns-else-write_str-clause-stopped g c = HasStopped.refused [] refl (record {
  between = c.args.output.now;
  refused = c.args.text.now;
  printed = appends_nothing (g.K.Sink.taken c.args.output.now);
  same = refl;
  handed = c.if-write_str.ensures.handed;
  counted = c.if-write_str.ensures.refused;
})
