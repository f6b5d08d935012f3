use Rattle.bib_csl.specs.Tables.{variable_named}
use Rattle.bib_csl.proofs.variables.Variable.from_name.Goals as goal

-- the table of the code is equal to the table of the definition, row by row
pub returns : goal.returns
unfolding variable_named
returns c = c.find_variable.ensures
