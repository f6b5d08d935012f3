use Rattle.edit_sort.proofs.TwiceFacts.{twice_is_once}
use Rattle.edit_sort.proofs.laws.twice_is_once.Goals as goal

pub returns : goal.returns
returns c d places order again new read in_order read' sorted = twice_is_once d places order again new read in_order read' sorted
