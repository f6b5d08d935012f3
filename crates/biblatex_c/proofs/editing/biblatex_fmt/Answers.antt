use Rattle.biblatex_c.proofs.EndFacts.{end_of}
use Rattle.biblatex_c.proofs.editing.biblatex_fmt.Goals as goal

pub returns : goal.returns
returns c = record {
  status = c.end.result;
  is = c.number.ensures;
  ends = end_of c.format_text.result c.format_text.ensures.text c.format_text.ensures.fails c.end.ensures;
}
