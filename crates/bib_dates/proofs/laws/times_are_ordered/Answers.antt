use Rattle.bib_dates.specs.OrderLaws.{time_laws}
use Rattle.bib_dates.proofs.OrderFacts.{times_equal}
use Rattle.bib_dates.proofs.laws.times_are_ordered.Goals as goal

pub returns-clause-through : goal.returns-clause-through
returns-clause-through c = time_laws.trans

pub returns-clause-equal : goal.returns-clause-equal
returns-clause-equal c = times_equal
