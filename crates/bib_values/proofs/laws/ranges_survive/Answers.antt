use Rattle.bib_values.proofs.RangeLaws.{range_survives, ranges_survive}
use Rattle.bib_values.proofs.laws.ranges_survive.Goals as goal

pub returns-clause-range : goal.returns-clause-range
returns-clause-range c range kept = range_survives range kept

pub returns-clause-ranges : goal.returns-clause-ranges
returns-clause-ranges c ranges kept = ranges_survive ranges kept
