use Rattle.bib_json.proofs.ArrayFacts.{pieces}
use Rattle.bib_json.proofs.laws.pieces_make_the_array.Goals as goal

pub returns : goal.returns
returns c elements = pieces elements
