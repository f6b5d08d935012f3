use Rattle.biblatex_c.proofs.EndFacts.{end_of}
use Rattle.biblatex_c.proofs.editing.biblatex_set_bare.Goals as goal

pub returns : goal.returns
returns c = record {
  status = c.end.result;
  is = c.number.ensures;
  ends = end_of c.set_in.result c.set_in.ensures.made c.set_in.ensures.fails c.end.ensures;
}
