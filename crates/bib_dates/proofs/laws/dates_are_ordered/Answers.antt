use Rattle.bib_dates.specs.OrderLaws.{datetime_laws}
use Rattle.bib_dates.proofs.OrderFacts.{dates_equal}
use Rattle.bib_dates.proofs.laws.dates_are_ordered.Goals as goal

pub returns-clause-through : goal.returns-clause-through
returns-clause-through c = datetime_laws.trans

pub returns-clause-equal : goal.returns-clause-equal
returns-clause-equal c = dates_equal
