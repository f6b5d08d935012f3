use Rattle.edit_merge.proofs.KeptFacts.{dangled_before, lost_not_in_ours, lost_not_in_theirs}
use Rattle.edit_merge.proofs.PlaceFacts.{have_places}
use Rattle.edit_merge.proofs.laws.clean_merges_lose_no_name.Goals as goal

pub returns-clause-merged : goal.returns-clause-merged
returns-clause-merged c vs fits fits' clean name is = dangled_before vs (have_places vs fits fits') clean name is

pub returns-clause-ours : goal.returns-clause-ours
returns-clause-ours c vs originals fits fits' clean name lost = lost_not_in_ours vs originals (have_places vs fits fits') clean name lost

pub returns-clause-theirs : goal.returns-clause-theirs
returns-clause-theirs c vs originals fits fits' clean name lost =
    lost_not_in_theirs vs originals (have_places vs fits fits') clean name lost
