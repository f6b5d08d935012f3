use Rattle.bib_queries.proofs.PartFacts.{part_found}
use Rattle.bib_findings.proofs.people.contains.Goals as goal

pub returns : goal.returns
returns c = part_found c.args.part.now c.args.name.now c.contains.result c.contains.ensures.cases
