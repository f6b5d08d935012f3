use Rattle.std.proofs.Common.{sym, ◌∙◌}
use Rattle.bib_contents.proofs.ProgressFacts.{taken_if, taken_if_same, taken_if_utf8}
use Rattle.bib_contents.proofs.characters.Characters.eat_if.Goals as goal

pub invariant_of-self : goal.invariant_of-self
invariant_of-self c = (
  c.self.invariant.0,
  c.self.invariant.1 ∙ sym (taken_if_same _ _ _ _ c.eat_if.ensures),
  taken_if_utf8 c.self.inside.scanner c.eat_if.new.self c.args.c c.eat_if.result c.self.invariant.2
      c.eat_if.ensures,
)

pub returns : goal.returns
returns c =
    rw (← c.self.view_is)
    (taken_if c.self.inside.scanner c.eat_if.new.self c.args.c c.eat_if.result c.self.invariant.2 c.eat_if.ensures)
