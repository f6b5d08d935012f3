use Rattle.biblatex_c.proofs.EndFacts.{end_of}
use Rattle.biblatex_c.proofs.reading.biblatex_bibtex.Goals as goal

pub returns : goal.returns
returns c = record {
  status = c.end.result;
  is = c.number.ensures;
  ends = end_of c.bibtex_of.result c.bibtex_of.ensures.text c.bibtex_of.ensures.fails c.end.ensures;
}
