use Rattle.bib_syntax.proofs.AnyFacts.{file_any}
use Rattle.bib_syntax.proofs.ModeFacts.{file_longest}
use Rattle.bib_syntax.proofs.laws.same_texts.Goals as goal

pub returns : goal.returns
returns c text = (λ read. file_longest read.1, λ reading. (reading.0, file_any reading.1))
