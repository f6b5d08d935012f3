use lib.Utf8.{encode}
use Rattle.bib_csl.specs.Markup.{sign_named}
use Rattle.bib_csl.proofs.commands.sign_named.Goals as goal

-- the table of the code is equal to the table of the definition, row by row
pub returns : goal.returns
unfolding sign_named encode
returns c = c.find_text.ensures
