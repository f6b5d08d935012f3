use Rattle.edit_laws.proofs.KeyFacts.{renamed_own}
use Rattle.edit_laws.proofs.laws.renamed_keeps_fields.Goals as goal

pub returns : goal.returns
returns c = λ d after keys own others changed first second. renamed_own own others changed first second
