-- the bytes before `rest` were appended, and nothing was refused
use Rattle.std.proofs.Common.{◌≡◌, ℕ, List, ◌++◌}
use Rattle.std.specs.Io.KnownBytes.{Appends}
use Rattle.biblatex.proofs.sink.Output.write_once.Given as goal

abbrev pub invariant-writes : goal.invariant-writes
invariant-writes g l = (done : List ℕ) × (l.bytes ≡ done ++ l.rest)
    × Appends (g.W.Write.contents l.initial.self.writer) (g.W.Write.contents l.self.writer) done
    × (l.self.refusals ≡ l.initial.self.refusals)
