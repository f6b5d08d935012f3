use Rattle.std.specs.Prelude.{codes}
use Rattle.bib_queries.proofs.CitationFacts.{prefix_after}
use Rattle.bibkit_core.proofs.rules.switched_list.Goals as goal

pub returns : goal.returns
returns c = prefix_after (codes "% bibkit: off ") c.args.line.now c.strip_prefix.result c.strip_prefix.ensures.cases
