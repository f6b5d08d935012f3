use Rattle.bib_from_csl.proofs.PageFacts.{pages_read}
use Rattle.bib_from_csl.proofs.laws.pages_are_read_again.Goals as goal

pub returns : goal.returns
returns c = pages_read
