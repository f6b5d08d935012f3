use Rattle.bib_from_csl.proofs.TextCuts.{prefix_taken}
use Rattle.bib_from_csl.proofs.tags.rest_after.Goals as goal

pub returns : goal.returns
returns c = prefix_taken c.args.prefix.now c.args.text.now c.strip_prefix.result c.strip_prefix.ensures.cases
