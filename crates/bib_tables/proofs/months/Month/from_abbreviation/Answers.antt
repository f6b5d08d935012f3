use Rattle.bib_tables.specs.Months.{month_of_abbreviation}
use Rattle.bib_tables.proofs.months.Month.from_abbreviation.Goals as goal

-- the table of the code has the months of the definition
pub returns : goal.returns
unfolding month_of_abbreviation
returns c = c.find_abbreviated.ensures
