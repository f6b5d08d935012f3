use Rattle.bib_chunks.proofs.WordFacts.{and_list_whole}
use Rattle.bib_chunks.proofs.laws.and_list_is_whole.Goals as goal

pub returns : goal.returns
returns c chunks texts = and_list_whole chunks texts
