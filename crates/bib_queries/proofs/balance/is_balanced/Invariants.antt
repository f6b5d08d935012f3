use Rattle.bib_queries.proofs.BalanceFacts.{IsCounted}
use Rattle.bib_queries.proofs.balance.is_balanced.Given as goal

abbrev pub invariant-bytes : goal.invariant-bytes
invariant-bytes l = IsCounted l.text l.byte-index l.depth
