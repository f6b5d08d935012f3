use Rattle.std.proofs.Common.{◌≡◌, ◌++◌}
use Rattle.bib_collections.specs.Claims.{text_pairs}
use Rattle.bib_collections.proofs.claims.Claims.into_names.Given as goal

-- the pairs so far and the remaining ones are all pairs
abbrev pub invariant-indices : goal.invariant-indices
invariant-indices l = l.pairs.items ++ text_pairs l.name-iterator ≡ text_pairs l.initial.name-iterator
