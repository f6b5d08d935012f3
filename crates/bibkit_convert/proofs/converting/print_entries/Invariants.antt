use Rattle.std.proofs.Common.{◌≡◌, map}
use Rattle.std.specs.Io.KnownBytes.{Appends}
use Rattle.bibkit_convert.specs.Converted.{texts_after, is_first_after}
use Rattle.bibkit_convert.proofs.converting.print_entries.Given as goal

abbrev pub invariant-entries : goal.invariant-entries
invariant-entries g l = record {
  printed : Appends (g.K.Sink.taken l.initial.output) (g.K.Sink.taken l.output)
      (texts_after l.target l.is_first (map (λ e. e.now) l.yielded));
  next : l.is_still_first ≡ is_first_after l.target l.is_first (map (λ e. e.now) l.yielded);
  same : g.K.Sink.refusals l.output ≡ g.K.Sink.refusals l.initial.output;
}
