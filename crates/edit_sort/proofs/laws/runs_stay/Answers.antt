use Rattle.std.proofs.Common.{sym}
use Rattle.edit_sort.proofs.TwiceFacts.{runs_in_order}
use Rattle.edit_sort.proofs.laws.runs_stay.Goals as goal

pub returns : goal.returns
returns c d places order in_order = sym (runs_in_order d places order in_order)
