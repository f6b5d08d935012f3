use Rattle.bib_chunks.proofs.PartFacts.{comma_list_no_comma}
use Rattle.bib_chunks.proofs.laws.no_comma_in_parts.Goals as goal

pub returns : goal.returns
returns c chunks texts = comma_list_no_comma chunks texts
