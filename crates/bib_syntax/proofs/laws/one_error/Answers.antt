use Rattle.bib_syntax.proofs.FileFailureFacts as failure
use Rattle.bib_syntax.proofs.laws.one_error.Goals as goal

pub returns : goal.returns
returns c text e f first second = failure.one_error first second
