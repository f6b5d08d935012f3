use Rattle.bib_text.proofs.PlaceFacts.{boundary_after}
use Rattle.bib_text.proofs.scanner.Scanner.pass.Goals as goal

pub invariant_of-self : goal.invariant_of-self
invariant_of-self c =
    (c.self.invariant.0, rw c.len_utf8.ensures.value (boundary_after _ _ c.self.view_is c.self.invariant.0 c.self.invariant.1 c.requires.1))
