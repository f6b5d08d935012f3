use Rattle.std.proofs.Common.{map}
use Rattle.std.specs.String.{string_bytes}
use Rattle.bib.specs.Output.{AreReported}
use Rattle.bib.proofs.reports.reports.Given as goal

abbrev pub invariant-entries : goal.invariant-entries
invariant-entries l = AreReported (map (λ e. e.now) l.yielded) (string_bytes l.text)
