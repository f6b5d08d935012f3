use Rattle.bib_abbreviations.proofs.LawFacts.{error_is_one, error_not_said, none_lead_on}
use Rattle.bib_abbreviations.proofs.laws.one_error.Goals as goal

pub returns-clause-none : goal.returns-clause-none
returns-clause-none c definitions is_verbatim pieces atoms e says error = error_not_said error none_lead_on says

pub returns-clause-one : goal.returns-clause-one
returns-clause-one c definitions is_verbatim pieces first second one two = error_is_one one two
