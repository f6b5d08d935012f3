use Rattle.std.proofs.Common.{sym, ◌∙◌}
use Rattle.bib_contents.proofs.ProgressFacts.{taken, taken_same, taken_utf8}
use Rattle.bib_contents.proofs.characters.Characters.eat.Goals as goal

pub invariant_of-self : goal.invariant_of-self
invariant_of-self c = (
  c.self.invariant.0,
  c.self.invariant.1 ∙ sym (taken_same _ _ _ c.eat.ensures),
  taken_utf8 c.self.inside.scanner c.eat.new.self c.eat.result c.self.invariant.2 c.eat.ensures,
)

pub returns : goal.returns
returns c = rw (← c.self.view_is) (taken c.self.inside.scanner c.eat.new.self c.eat.result c.self.invariant.2 c.eat.ensures)
