use Rattle.bib_select.proofs.JoinedFacts.{conditions_by_grammar}
use Rattle.bib_select.proofs.laws.conditions_have_a_grammar.Goals as goal

pub returns : goal.returns
returns c = conditions_by_grammar
