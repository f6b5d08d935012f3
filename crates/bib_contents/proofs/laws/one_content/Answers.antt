use Rattle.bib_contents.proofs.ContentFacts.{read_same}
use Rattle.bib_contents.proofs.laws.one_content.Goals as goal

pub returns : goal.returns
returns c is_verbatim text first second one two = read_same one two
