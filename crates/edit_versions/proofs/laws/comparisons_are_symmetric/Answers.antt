use Rattle.edit_versions.proofs.SymmetryFacts.{alike_symmetric, same_symmetric}
use Rattle.edit_versions.proofs.laws.comparisons_are_symmetric.Goals as goal

pub returns-clause-same : goal.returns-clause-same
returns-clause-same c v u w x = same_symmetric v u w x

pub returns-clause-alike : goal.returns-clause-alike
returns-clause-alike c v u w x = alike_symmetric v u w x
