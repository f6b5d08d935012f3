use Rattle.edit_laws.proofs.LeadChangeFacts.{entries_renamed}
use Rattle.edit_laws.proofs.LeadFacts.{one_leads, references_lead}
use Rattle.edit_laws.proofs.laws.renamed_leads_alike.Goals as goal

pub returns-clause-keys : goal.returns-clause-keys
returns-clause-keys c = λ d after keys read changed. (entries_renamed d after keys read changed).key

pub returns-clause-references : goal.returns-clause-references
returns-clause-references c = λ d after keys read changed earlier. references_lead d after keys read changed earlier

pub returns-clause-one : goal.returns-clause-one
returns-clause-one c = λ d after old new read changed. one_leads d after old new read changed
