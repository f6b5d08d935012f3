use Rattle.bib_tables.specs.Months.{month_of_word}
use Rattle.bib_tables.proofs.months.Month.from_word.Goals as goal

-- the table of the code has the months of the definition
pub returns : goal.returns
unfolding month_of_word
returns c = c.find_named.ensures
