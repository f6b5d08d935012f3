use Rattle.biblatex.proofs.IndexLaws.{keys_fresh}
use Rattle.biblatex.proofs.laws.fresh_keys.Goals as goal

pub returns : goal.returns
returns c says own are = keys_fresh are
