use Rattle.biblatex.proofs.ResolvedFacts.{graph_same}
use Rattle.biblatex.proofs.laws.one_graph.Goals as goal

pub returns : goal.returns
returns c says one other first second = graph_same says first second
