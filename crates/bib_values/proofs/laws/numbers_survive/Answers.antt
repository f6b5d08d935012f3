use Rattle.bib_values.proofs.NumberFacts.{number_survives}
use Rattle.bib_values.proofs.laws.numbers_survive.Goals as goal

pub returns : goal.returns
returns c z fits = number_survives z fits
