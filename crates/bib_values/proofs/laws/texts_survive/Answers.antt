use Rattle.bib_chunks.proofs.ValueFacts.{verbatim_text}
use Rattle.bib_values.proofs.laws.texts_survive.Goals as goal

pub returns : goal.returns
returns c = verbatim_text c.args.t.now c.utf8.t
