use Rattle.bib_csl.proofs.OrderFacts.{key_found, type_found}
use Rattle.bib_csl.proofs.laws.key_and_type_are_found.Goals as goal

pub returns-clause-key : goal.returns-clause-key
unfolding Rattle.bib_csl.specs.Json.json_of
returns-clause-key c entry = key_found entry

pub returns-clause-type_of : goal.returns-clause-type_of
unfolding Rattle.bib_csl.specs.Json.json_of
returns-clause-type_of c entry = type_found entry
