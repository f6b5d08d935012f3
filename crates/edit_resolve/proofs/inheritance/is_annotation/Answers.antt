use Rattle.std.specs.Prelude.{codes}
use Rattle.bib_queries.proofs.PartFacts.{part_found}
use Rattle.edit_resolve.proofs.inheritance.is_annotation.Goals as goal

pub returns : goal.returns
returns c = part_found (codes "+an") c.args.name.now c.contains.result c.contains.ensures.cases
