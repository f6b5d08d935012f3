use Rattle.biblatex_c.proofs.EndFacts.{end_of}
use Rattle.biblatex_c.proofs.reading.biblatex_keys.Goals as goal

pub returns : goal.returns
returns c = record {
  status = c.end.result;
  is = c.number.ensures;
  ends = end_of c.keys_of.result c.keys_of.ensures.keys c.keys_of.ensures.fails c.end.ensures;
}
