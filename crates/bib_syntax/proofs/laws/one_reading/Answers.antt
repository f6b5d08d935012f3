use Rattle.bib_syntax.proofs.FileFacts.{file_same}
use Rattle.bib_syntax.proofs.laws.one_reading.Goals as goal

pub returns : goal.returns
returns c text says decides first second = file_same first second
