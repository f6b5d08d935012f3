use Rattle.biblatex_c.proofs.EndFacts.{end_of}
use Rattle.biblatex_c.proofs.exporting.biblatex_csl.Goals as goal

pub returns : goal.returns
returns c = record {
  status = c.end.result;
  is = c.number.ensures;
  ends = end_of c.bibliography_as.result c.bibliography_as.ensures.text c.bibliography_as.ensures.fails c.end.ensures;
}
