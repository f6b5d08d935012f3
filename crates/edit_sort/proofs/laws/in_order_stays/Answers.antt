use Rattle.edit_sort.proofs.StaysFacts.{in_order_stays}
use Rattle.edit_sort.proofs.laws.in_order_stays.Goals as goal

pub returns : goal.returns
returns c d places new read sorted text = in_order_stays d places new read sorted text
