use Rattle.bib_csl.specs.Markup.{is_silent}
use Rattle.bib_csl.proofs.commands.is_silent.Goals as goal

-- the list of the code is equal to the list of the definition, word by word
pub returns : goal.returns
unfolding is_silent
returns c = c.is_among.ensures
