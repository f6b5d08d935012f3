use Rattle.bib_csl.specs.Tables.{item_type_by_own_type}
use Rattle.bib_csl.proofs.item_types.ItemType.from_own_type.Goals as goal

-- the table of the code is equal to the table of the definition, row by row
pub returns : goal.returns
unfolding item_type_by_own_type
returns c = c.find_by_own_type.ensures
