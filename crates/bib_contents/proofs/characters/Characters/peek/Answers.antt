use Rattle.bib_contents.proofs.ProgressFacts.{peeked}
use Rattle.bib_contents.proofs.characters.Characters.peek.Goals as goal

pub returns : goal.returns
returns c = rw (← c.self.view_is) (peeked c.self.inside.scanner c.peek.result c.self.invariant.2 c.peek.ensures)
