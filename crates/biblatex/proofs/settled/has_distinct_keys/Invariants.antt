use Rattle.std.proofs.Common.{ℕ, ◌<◌}
use Rattle.biblatex.proofs.DistinctFacts.{IsAlone, keys_of}
use Rattle.biblatex.proofs.settled.has_distinct_keys.Given as goal

abbrev pub invariant-indices : goal.invariant-indices
invariant-indices l = (i : ℕ) → i < l.index → IsAlone l.names (keys_of l.entries) i
