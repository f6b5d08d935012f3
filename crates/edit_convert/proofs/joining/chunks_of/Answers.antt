use Rattle.edit_convert.proofs.DateReadFacts.{chunk_text}
use Rattle.edit_convert.proofs.joining.chunks_of.Goals as goal

pub returns : goal.returns
returns c = chunk_text c.verbatim.result c.args.text.now c.utf8.text c.verbatim.ensures
