use Rattle.std.proofs.Common.{rules}
use Rattle.bib_csl.proofs.item_types.ItemType.row.Goals as goal

-- the table of the code is equal to the table of the definition, row by row
pub returns : goal.returns
returns c = search rules
