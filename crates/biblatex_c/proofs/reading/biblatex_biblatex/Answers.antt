use Rattle.biblatex_c.proofs.EndFacts.{end_of}
use Rattle.biblatex_c.proofs.reading.biblatex_biblatex.Goals as goal

pub returns : goal.returns
returns c = record {
  status = c.end.result;
  is = c.number.ensures;
  ends = end_of c.biblatex_of.result c.biblatex_of.ensures.text c.biblatex_of.ensures.fails c.end.ensures;
}
