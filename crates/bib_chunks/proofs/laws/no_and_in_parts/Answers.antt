use Rattle.bib_chunks.proofs.WordFacts.{and_list_no_and}
use Rattle.bib_chunks.proofs.laws.no_and_in_parts.Goals as goal

pub returns : goal.returns
returns c chunks texts = and_list_no_and chunks texts
