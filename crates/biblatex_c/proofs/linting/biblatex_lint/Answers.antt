use Rattle.biblatex_c.proofs.EndFacts.{end_of}
use Rattle.biblatex_c.proofs.linting.biblatex_lint.Goals as goal

pub returns : goal.returns
returns c = record {
  status = c.end.result;
  is = c.number.ensures;
  ends = end_of c.faults_of.result c.faults_of.ensures.found c.faults_of.ensures.fails c.end.ensures;
}
