use Rattle.std.proofs.Common.{◌∙◌}
use Rattle.bib_collections.proofs.CopyFacts.{compared}
use Rattle.bib_collections.proofs.text_map.TextMapPartialEq.eq.Goals as goal

pub returns : goal.returns
returns g c = c.eq.ensures ∙ compared g.V.PartialEq.eq _ _ _ _ c.self.view_is c.self.invariant c.other.view_is c.other.invariant
