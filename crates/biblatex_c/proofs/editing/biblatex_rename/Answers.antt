use Rattle.biblatex_c.proofs.EndFacts.{end_of}
use Rattle.biblatex_c.proofs.editing.biblatex_rename.Goals as goal

pub returns : goal.returns
returns c = record {
  status = c.end.result;
  is = c.number.ensures;
  ends = end_of c.rename_in.result c.rename_in.ensures.made c.rename_in.ensures.fails c.end.ensures;
}
