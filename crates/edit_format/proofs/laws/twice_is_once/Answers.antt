use Rattle.edit_format.proofs.TwiceFacts.{twice_is_once}
use Rattle.edit_format.proofs.laws.twice_is_once.Goals as goal

pub returns : goal.returns
returns c style text says again read read' = twice_is_once style text says again read read'
