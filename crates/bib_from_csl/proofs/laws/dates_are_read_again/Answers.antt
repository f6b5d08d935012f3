use Rattle.bib_from_csl.proofs.DateFacts.{kept_dates_read}
use Rattle.bib_from_csl.proofs.laws.dates_are_read_again.Goals as goal

pub returns : goal.returns
returns c = kept_dates_read
