use Rattle.bib_csl.proofs.OrderFacts.{variables_found}
use Rattle.bib_csl.proofs.laws.variables_are_found.Goals as goal

pub returns : goal.returns
unfolding Rattle.bib_csl.specs.Json.json_of
returns c entry = variables_found entry
