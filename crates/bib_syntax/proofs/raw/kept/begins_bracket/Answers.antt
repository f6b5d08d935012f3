use Rattle.bib_syntax.specs.Kept.{opens_block}
use Rattle.bib_syntax.proofs.WordFacts.{passes_cases}
use Rattle.bib_syntax.proofs.raw.kept.begins_bracket.Goals as goal

pub returns-in-Some : goal.returns-in-Some
returns-in-Some c = passes_cases opens_block _ c.in-Some.ensures.1 c.opens_block.ensures
