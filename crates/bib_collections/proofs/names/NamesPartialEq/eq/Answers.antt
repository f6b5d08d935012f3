use Rattle.std.proofs.Common.{◌∙◌, nat_eq}
use Rattle.bib_collections.proofs.CopyFacts.{compared}
use Rattle.bib_collections.proofs.names.NamesPartialEq.eq.Goals as goal

pub returns : goal.returns
returns c = c.eq.ensures ∙ compared nat_eq _ _ _ _ c.self.view_is c.self.invariant c.other.view_is c.other.invariant
