use Rattle.bib_collections.proofs.SortedFacts.{no_pairs}
use Rattle.bib_collections.proofs.text_map.TextMap.new.Goals as goal

pub returns : goal.returns
returns g c = no_pairs _ c.new.ensures.items
