use Rattle.bib_from_csl.proofs.languages.named.Goals as goal

-- the table of the code is equal to the table of the definition, row by row
pub returns : goal.returns
returns c = c.text_named.ensures
