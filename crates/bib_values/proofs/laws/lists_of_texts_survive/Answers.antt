use Rattle.bib_values.proofs.CommaFacts.{strings_kept}
use Rattle.bib_values.proofs.laws.lists_of_texts_survive.Goals as goal

pub returns : goal.returns
returns c texts kept = strings_kept texts kept
