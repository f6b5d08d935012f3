use Rattle.bib_chunks.proofs.CutFacts.{first_comma}
use Rattle.bib_chunks.proofs.chunk.cuts.first_cut.Goals as goal

pub returns-in-Comma : goal.returns-in-Comma
returns-in-Comma c = rw c.in-Comma.is (first_comma c.args.text.now c.split_once.result c.utf8.text c.split_once.ensures.cases)
