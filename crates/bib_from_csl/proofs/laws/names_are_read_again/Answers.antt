use Rattle.bib_from_csl.proofs.PeopleFacts.{plain_names_read}
use Rattle.bib_from_csl.proofs.laws.names_are_read_again.Goals as goal

pub returns : goal.returns
returns c = plain_names_read
