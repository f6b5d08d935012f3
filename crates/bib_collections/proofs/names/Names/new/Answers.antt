use Rattle.bib_collections.proofs.SortedFacts.{no_pairs}
use Rattle.bib_collections.proofs.names.Names.new.Goals as goal

pub returns : goal.returns
returns c = no_pairs _ c.new.ensures.items
