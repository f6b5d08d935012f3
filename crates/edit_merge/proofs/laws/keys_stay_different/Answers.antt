use Rattle.edit_merge.proofs.KeyFacts.{merged_keys_differ}
use Rattle.edit_merge.proofs.laws.keys_stay_different.Goals as goal

pub returns : goal.returns
returns c vs originals fits fits' few few' differ differ' clean =
    merged_keys_differ vs originals (record { fits = fits; few = few; differ = differ })
    (record { fits = fits'; few = few'; differ = differ' }) clean
