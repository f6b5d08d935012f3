use Rattle.bib_values.proofs.RomanFacts.{numeral_number}
use Rattle.bib_values.proofs.laws.numerals_spell_their_numbers.Goals as goal

pub returns : goal.returns
returns c n above below = numeral_number n above below
