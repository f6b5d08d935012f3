use Rattle.edit_sort.proofs.OneOrderFacts.{one_order}
use Rattle.edit_sort.proofs.laws.one_order.Goals as goal

pub returns : goal.returns
returns c d places first second read in_order in_order' = one_order d places first second read in_order in_order'
