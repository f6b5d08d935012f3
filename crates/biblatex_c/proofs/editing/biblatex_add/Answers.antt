use Rattle.biblatex_c.proofs.EndFacts.{end_of}
use Rattle.biblatex_c.proofs.editing.biblatex_add.Goals as goal

pub returns : goal.returns
returns c = record {
  status = c.end.result;
  is = c.number.ensures;
  ends = end_of c.add_to.result c.add_to.ensures.made c.add_to.ensures.fails c.end.ensures;
}
