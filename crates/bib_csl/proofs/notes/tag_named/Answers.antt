use Rattle.bib_csl.specs.Notes.{tag_named}
use Rattle.bib_csl.proofs.notes.tag_named.Goals as goal

-- the table of the code is equal to the table of the definition, row by row
pub returns : goal.returns
unfolding tag_named
returns c = c.text_named.ensures
