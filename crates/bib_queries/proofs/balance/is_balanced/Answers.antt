use Rattle.bib_queries.proofs.BalanceFacts.{counted_start}
use Rattle.bib_queries.proofs.balance.is_balanced.Goals as goal

pub bytes-init : goal.bytes-init
bytes-init c = counted_start c.args.text.now
