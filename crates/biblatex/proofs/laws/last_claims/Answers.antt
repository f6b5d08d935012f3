use Rattle.std.proofs.Common.{◌∙◌, subst}
use Rattle.biblatex.specs.Places.{PointsToLastClaims}
use Rattle.biblatex.proofs.IndexLaws.{points_loaded}
use Rattle.biblatex.proofs.ResolvedFacts.{all_after, names_same}
use Rattle.biblatex.proofs.laws.last_claims.Goals as goal

pub returns : goal.returns
returns c says own bibliography are loaded =
    subst PointsToLastClaims (all_after own (loaded.names ∙ names_same says loaded.accepted.entries are)) (points_loaded own)
