use Rattle.edit_merge.proofs.ExchangedFacts.{orders_conflict_alike, places_conflict_alike}
use Rattle.edit_merge.proofs.laws.sides_can_be_exchanged.Goals as goal

pub returns-clause-places : goal.returns-clause-places
returns-clause-places c vs name is = places_conflict_alike vs name is

pub returns-clause-order : goal.returns-clause-order
returns-clause-order c vs is = orders_conflict_alike vs is
