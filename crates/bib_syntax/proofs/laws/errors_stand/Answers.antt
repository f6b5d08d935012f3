use Rattle.bib_syntax.proofs.ErrorPlaceFacts.{reported_syntax}
use Rattle.bib_syntax.proofs.laws.errors_stand.Goals as goal

pub returns : goal.returns
returns c text e reported = reported_syntax text e reported
