use Rattle.std.proofs.Common.{ℕ, List}
use Rattle.bib_syntax.specs.Failures.{AllFail, AreFailures}
use Rattle.bib_syntax.proofs.raw.failures.Failures.remember.Given as goal

abbrev pub invariant-starts : goal.invariant-starts
invariant-starts l = (text : List ℕ) → AllFail text l.error l.starts → AreFailures text l.fn.self → AreFailures text l.self
