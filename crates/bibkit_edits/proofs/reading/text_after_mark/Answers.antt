use Rattle.bib_source.proofs.InvalidFacts.{from_rest}
use Rattle.bibkit_edits.proofs.reading.text_after_mark.Goals as goal

pub returns-in-Err-clause-invalid : goal.returns-in-Err-clause-invalid
returns-in-Err-clause-invalid c = from_rest _ _ _ _ c.mark_length-start.ensures.value c.valid_up_to.ensures c.in-Err.ensures.cases.1
