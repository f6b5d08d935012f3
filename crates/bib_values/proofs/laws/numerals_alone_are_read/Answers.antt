use Rattle.bib_values.proofs.RomanFacts.{numeral_only}
use Rattle.bib_values.proofs.laws.numerals_alone_are_read.Goals as goal

pub returns : goal.returns
returns c t n read = numeral_only t n read
