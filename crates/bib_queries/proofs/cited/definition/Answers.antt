use Rattle.bib_syntax.specs.Views.{field_of}
use Rattle.bib_queries.proofs.DefinitionFacts.{cut_out}
use Rattle.bib_queries.proofs.cited.definition.Goals as goal

pub range-requires-clause-start_le_end : goal.range-requires-clause-start_le_end
range-requires-clause-start_le_end c = (cut_out c.args.text.now (field_of c.args.pair.now) c.utf8.text c.requires).ordered

pub range-requires-clause-start_boundary : goal.range-requires-clause-start_boundary
range-requires-clause-start_boundary c = λ positive. (cut_out c.args.text.now (field_of c.args.pair.now) c.utf8.text c.requires).start

pub range-requires-clause-end_boundary : goal.range-requires-clause-end_boundary
range-requires-clause-end_boundary c = (cut_out c.args.text.now (field_of c.args.pair.now) c.utf8.text c.requires).end
