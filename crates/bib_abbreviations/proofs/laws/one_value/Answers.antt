use Rattle.bib_abbreviations.proofs.LawFacts.{evaluates_same}
use Rattle.bib_abbreviations.proofs.laws.one_value.Goals as goal

pub returns : goal.returns
returns c definitions is_verbatim pieces first second one two = evaluates_same one two
