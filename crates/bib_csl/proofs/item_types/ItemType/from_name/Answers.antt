use Rattle.bib_csl.specs.Tables.{item_type_by_name}
use Rattle.bib_csl.proofs.item_types.ItemType.from_name.Goals as goal

-- the table of the code is equal to the table of the definition, row by row
pub returns : goal.returns
unfolding item_type_by_name
returns c = c.find_type.ensures
