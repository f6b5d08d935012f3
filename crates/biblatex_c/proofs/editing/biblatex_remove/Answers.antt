use Rattle.biblatex_c.proofs.EndFacts.{end_of}
use Rattle.biblatex_c.proofs.editing.biblatex_remove.Goals as goal

pub returns : goal.returns
returns c = record {
  status = c.end.result;
  is = c.number.ensures;
  ends = end_of c.remove_in.result c.remove_in.ensures.made c.remove_in.ensures.fails c.end.ensures;
}
