use Rattle.edit_merge.proofs.RelaidFacts.{relaid_conflict, relaid_picks}
use Rattle.edit_merge.proofs.laws.alike_units_are_interchangeable.Goals as goal

pub returns-clause-conflicts : goal.returns-clause-conflicts
returns-clause-conflicts c vs ws name are is = relaid_conflict vs ws name are is

pub returns-clause-picks : goal.returns-clause-picks
returns-clause-picks c vs ws name are picked picked' = relaid_picks vs ws name are picked picked'
