use Rattle.biblatex.proofs.RecoveredLaws.{accepted_recovered, recovered_accepted, recovered_loaded}
use Rattle.biblatex.proofs.laws.recovered_is_loaded.Goals as goal

pub returns-clause-accepted : goal.returns-clause-accepted
returns-clause-accepted c text bibliography origins is = recovered_accepted is

pub returns-clause-loaded : goal.returns-clause-loaded
returns-clause-loaded c text bibliography origins is = recovered_loaded is

pub returns-clause-none : goal.returns-clause-none
returns-clause-none c text bibliography origins skipped errors accepted is = accepted_recovered accepted is
