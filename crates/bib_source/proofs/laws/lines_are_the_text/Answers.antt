use Rattle.bib_source.proofs.LineFacts.{lines_are_the_text}
use Rattle.bib_source.proofs.laws.lines_are_the_text.Goals as goal

pub returns : goal.returns
returns c = lines_are_the_text
