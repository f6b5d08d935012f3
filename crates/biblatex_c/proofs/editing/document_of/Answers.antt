use Rattle.biblatex_c.proofs.FailureFacts.{document_answer}
use Rattle.biblatex_c.proofs.editing.document_of.Goals as goal

pub returns-clause-fails : goal.returns-clause-fails
returns-clause-fails c =
    document_answer c.read.result c.args.text.now c.in_ok-text_of.field-0.now c.in_ok-text_of.ensures.text c.read.ensures.fails
