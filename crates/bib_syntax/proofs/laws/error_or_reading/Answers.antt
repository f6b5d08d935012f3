use Rattle.bib_syntax.proofs.FileFailureFacts.{file_unread}
use Rattle.bib_syntax.proofs.ModeFacts.{file_longest}
use Rattle.bib_syntax.proofs.laws.error_or_reading.Goals as goal

pub returns : goal.returns
returns c text e reported read = file_unread reported.fails (file_longest read.1).1
