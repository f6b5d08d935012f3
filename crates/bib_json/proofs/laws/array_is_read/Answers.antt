use Rattle.bib_json.proofs.ReadingFacts.{entries_read}
use Rattle.bib_json.proofs.laws.array_is_read.Goals as goal

pub returns : goal.returns
returns c entries h = entries_read entries h
