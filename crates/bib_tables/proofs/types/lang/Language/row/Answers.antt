use Rattle.std.proofs.Common.{rules}
use Rattle.std.specs.Char.{encode_utf8}
use Rattle.bib_tables.proofs.types.lang.Language.row.Goals as goal

-- the table of the code is equal to the table of the definition, row by row
pub returns : goal.returns
unfolding encode_utf8
returns c = search rules
