use Rattle.bib_json.proofs.LawFacts.{found_in_entry}
use Rattle.bib_json.proofs.laws.fields_are_found.Goals as goal

pub returns : goal.returns
returns c entry name = found_in_entry entry name
