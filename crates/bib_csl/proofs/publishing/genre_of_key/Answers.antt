use Rattle.bib_csl.proofs.publishing.genre_of_key.Goals as goal

-- the table of the code is equal to the table of the definition, row by row
pub returns : goal.returns
returns c = c.find_text.ensures
