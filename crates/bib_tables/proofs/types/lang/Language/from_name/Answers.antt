use Rattle.std.specs.Char.{encode_utf8}
use Rattle.bib_tables.specs.Language.{language_named}
use Rattle.bib_tables.proofs.types.lang.Language.from_name.Goals as goal

-- the table of the code is equal to the table of the definition, row by row
pub returns : goal.returns
unfolding language_named encode_utf8
returns c = c.find_named.ensures
