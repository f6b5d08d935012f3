use Rattle.bib_chunks.proofs.WholeFacts.{comma_list_whole}
use Rattle.bib_chunks.proofs.laws.comma_list_is_whole.Goals as goal

pub returns : goal.returns
returns c chunks texts = comma_list_whole chunks texts
