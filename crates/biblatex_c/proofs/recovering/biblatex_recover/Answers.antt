use Rattle.biblatex_c.proofs.EndFacts.{end_of}
use Rattle.biblatex_c.proofs.recovering.biblatex_recover.Goals as goal

pub returns : goal.returns
returns c = record {
  status = c.end.result;
  is = c.number.ensures;
  ends = end_of c.recover_in.result c.recover_in.ensures.text c.recover_in.ensures.fails c.end.ensures;
}
