use Rattle.std.proofs.Common.{sym}
use Rattle.bib_collections.proofs.SortedFacts.{entries_are}
use Rattle.bib_collections.proofs.text_map.TextMap.into_pairs.Goals as goal

pub returns : goal.returns
returns g c = sym (entries_are _ _ c.self.view_is c.self.invariant)
