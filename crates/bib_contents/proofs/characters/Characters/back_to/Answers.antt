use Rattle.bib_contents.proofs.characters.Characters.back_to.Goals as goal

pub returns-clause-utf8 : goal.returns-clause-utf8
returns-clause-utf8 c = rw c.jump.ensures.place c.jump.ensures.utf8
