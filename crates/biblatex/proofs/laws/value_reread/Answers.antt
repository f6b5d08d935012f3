use Rattle.biblatex.proofs.ValueReread.{reread}
use Rattle.biblatex.proofs.laws.value_reread.Goals as goal

pub returns : goal.returns
returns c is_verbatim chunks settled = reread is_verbatim chunks settled
