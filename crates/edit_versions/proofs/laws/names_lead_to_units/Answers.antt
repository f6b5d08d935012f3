use Rattle.edit_versions.proofs.IndexFacts.{names_lead_to_units}
use Rattle.edit_versions.proofs.laws.names_lead_to_units.Goals as goal

pub returns : goal.returns
returns c v fits index name is = names_lead_to_units v fits index name is
