use Rattle.std.specs.Char.{encode_utf8}
use Rattle.bib_findings.proofs.demands.demands_of.Goals as goal

-- the table of the code is equal to the table of the definition, row by row
pub returns : goal.returns
unfolding encode_utf8
returns c = c.demands_in.ensures
