use Rattle.edit_merge.proofs.OnceFacts.{merged_names_differ}
use Rattle.edit_merge.proofs.laws.places_have_different_names.Goals as goal

pub returns : goal.returns
returns c vs fits fits' = merged_names_differ vs fits fits'
