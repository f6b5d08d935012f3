use Rattle.bib_from_json.proofs.LawFacts.{text_read}
use Rattle.bib_from_json.proofs.laws.json_is_read.Goals as goal

pub returns : goal.returns
returns c all read = text_read all read
