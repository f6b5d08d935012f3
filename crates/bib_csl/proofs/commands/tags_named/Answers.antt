use Rattle.bib_csl.proofs.commands.tags_named.Goals as goal

-- the table of the code is equal to the table of the definition, row by row
pub returns : goal.returns
returns c = c.find_tags.ensures
