use Rattle.edit_sort.proofs.KeyOrderFacts.{one_key_keeps_order}
use Rattle.edit_sort.proofs.laws.one_key_keeps_order.Goals as goal

pub returns : goal.returns
returns c d places order i j first second read in_order at_i at_j one less =
    one_key_keeps_order d places order i j first second read in_order at_i at_j one less
