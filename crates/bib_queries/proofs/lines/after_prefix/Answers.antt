use Rattle.bib_queries.proofs.CitationFacts.{prefix_after}
use Rattle.bib_queries.proofs.lines.after_prefix.Goals as goal

pub returns : goal.returns
returns c = prefix_after c.args.prefix.now c.args.text.now c.strip_prefix.result c.strip_prefix.ensures.cases
