use Rattle.std.proofs.Common.{◌≡◌, drop, map}
use Rattle.std.specs.List.{enumerate_from}
use Rattle.bib_collections.specs.Names.{with_claims}
use Rattle.edit_versions.specs.Versions.{indices_of}
use Rattle.edit_versions.proofs.names.indices_of.Given as goal

-- the remaining claims lead from the indices so far to all indices
abbrev pub invariant-names : goal.invariant-names
invariant-names l = with_claims l.indices (map (λ x. (x.1, x.0)) (enumerate_from l.index (drop l.index l.names))) ≡ indices_of l.names
