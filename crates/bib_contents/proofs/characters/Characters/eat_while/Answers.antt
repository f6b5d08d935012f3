use Rattle.std.proofs.Common.{sym, ◌∙◌}
use Rattle.bib_contents.proofs.ProgressFacts.{taken_while, taken_while_utf8}
use Rattle.bib_contents.proofs.characters.Characters.eat_while.Goals as goal

pub invariant_of-self : goal.invariant_of-self
invariant_of-self g c = (
  c.self.invariant.0,
  c.self.invariant.1 ∙ sym c.eat_while.ensures.same,
  taken_while_utf8 c.requires.is_test.0 c.self.inside.scanner c.eat_while.new.self c.self.invariant.2
      (c.eat_while.ensures.longest _ c.requires.is_test.1),
)

pub returns-clause-passed : goal.returns-clause-passed
returns-clause-passed g c =
    rw (← c.self.view_is)
    (taken_while c.requires.is_test.0 c.self.inside.scanner c.eat_while.new.self c.eat_while.result.now
    c.self.invariant.2 c.eat_while.utf8 (c.eat_while.ensures.longest _ c.requires.is_test.1)
    c.eat_while.ensures.eaten).0

pub returns-clause-longest : goal.returns-clause-longest
returns-clause-longest g c p answers =
    let eaten =
    taken_while p c.self.inside.scanner c.eat_while.new.self c.eat_while.result.now c.self.invariant.2
    c.eat_while.utf8 (c.eat_while.ensures.longest p answers) c.eat_while.ensures.eaten in
    (eaten.1, eaten.2)
