use Rattle.bib_json.proofs.LawFacts.{same_date}
use Rattle.bib_json.proofs.laws.date_is_that_of_its_field.Goals as goal

pub returns : goal.returns
returns c entry has = same_date entry has
