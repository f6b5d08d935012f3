use Rattle.std.proofs.Common.{sym, ◌∙◌}
use Rattle.bib_collections.proofs.SortedFacts.{len_is}
use Rattle.bib_collections.proofs.text_map.TextMap.len.Goals as goal

pub returns : goal.returns
returns g c = c.len.ensures ∙ c.self.inside.pairs.ok.0 ∙ sym (len_is _ _ c.self.view_is c.self.invariant)
