use Rattle.bib_values.proofs.RangeGrammar.{range_read_of, range_spelt}
use Rattle.bib_values.proofs.laws.ranges_are_read.Goals as goal

pub returns-clause-read : goal.returns-clause-read
returns-clause-read c characters range read = range_spelt characters range read

pub returns-clause-spelt : goal.returns-clause-spelt
returns-clause-spelt c characters range is = range_read_of characters range is
