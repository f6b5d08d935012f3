use Rattle.bib_keys.proofs.CommandFacts.{no_space}
use Rattle.bib_keys.proofs.commands.without_space.Goals as goal

pub returns-in-None : goal.returns-in-None
unfolding lib.Utf8.encode
returns-in-None c = no_space c.args.text.now c.in-None.ensures.cases
