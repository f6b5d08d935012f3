use Rattle.std.proofs.Common.{◌==◌, sym, ap, ◌∙◌}
use Rattle.bib_collections.proofs.SortedFacts.{len_is}
use Rattle.bib_collections.proofs.text_map.TextMap.is_empty.Goals as goal

pub returns : goal.returns
returns g c = c.is_empty.ensures ∙ ap (λ n. n == 0) (c.self.inside.pairs.ok.0 ∙ sym (len_is _ _ c.self.view_is c.self.invariant))
