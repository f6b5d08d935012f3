use Rattle.std.proofs.Common.{◌≡◌, ◌++◌, drop, map}
use Rattle.std.specs.List.{enumerate_from}
use Rattle.edit_changes.specs.Changes.{renamed_indices, renamed_to}
use Rattle.edit_changes.proofs.renames.renamed_indices.Given as goal

-- the indices so far, and those of the remaining units, are all indices
abbrev pub invariant-names : goal.invariant-names
invariant-names l =
    l.indices.items ++ map (λ x. renamed_to l.old l.new x.0) (enumerate_from l.index (drop l.index l.names))
    ≡ renamed_indices l.old l.new
